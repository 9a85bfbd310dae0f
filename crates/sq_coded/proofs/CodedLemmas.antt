-- Lists are read back from their words, and grow by blocks.
use Rattle.std.proofs.Common.{◌≡◌, ℕ, ◌+◌, ◌*◌, ◌/◌, ◌%◌, ◌<◌, ◌≤◌, true, List, [], ◌∷◌, ◌++◌, length, take, drop, refl, sym, ap, ◌∙◌, arith, zero, suc, append_assoc, length-append, length-take, length-drop}
use Rattle.std.proofs.lemmas.List.{take_at, drop_at, take-append-le, drop-append-le, take-append-drop, take_all, drop_all, append-nil, nil_from_length, take_min, drop_min}
use Rattle.std.specs.Prelude.{min}
use Rattle.sq_coded.specs.Coded.{AllFollow, is_list, origin, bytes_behind, block_code, block_words, coded_blocks, coded, decoded_blocks, decoded}
use Rattle.sq_coded.specs.declared.posting.Posting.{Posting}
use Rattle.sq_coded.proofs.NumberLemmas.{packed_back, filling}
use Rattle.sq_coded.proofs.BlockLemmas.{AllFollow-list, AllFollow-take, AllFollow-drop, entries_back, AreBytes-behind, length-block_code}

-- ---- the code by blocks

-- as many steps as there are entries are enough
enough : (m n : ℕ) (entries : List Posting) → length entries ≤ m → length entries ≤ n → coded_blocks m entries ≡ coded_blocks n entries
enough m n [] p q = refl
enough zero n (e ∷ entries) p q = absurd (omega (arith, p))
enough (suc m) zero (e ∷ entries) p q = absurd (omega (arith, q))
enough (suc m) (suc n) (e ∷ entries) p q =
    let fewer : length (drop 127 entries) ≤ m = omega (arith, length-drop 127 entries) in
    let fewer' : length (drop 127 entries) ≤ n = omega (arith, length-drop 127 entries) in
    ap (λ words. block_words (e ∷ take 127 entries) ++ words) (enough m n (drop 127 entries) fewer fewer')

pub coded_none : coded [] ≡ []
unfolding coded
coded_none = refl

pub coded_first : (entries : List Posting) → 0 < length entries → coded entries ≡ block_words (take 128 entries) ++ coded (drop 128 entries)
unfolding coded
coded_first [] l = absurd (omega (arith, l))
coded_first (e ∷ entries) l =
    let fewer : length (drop 127 entries) ≤ length entries = omega (arith, length-drop 127 entries) in
    ap (λ words. block_words (e ∷ take 127 entries) ++ words) (enough (length entries) (length (drop 127 entries)) (drop 127 entries) fewer (omega arith))

-- the same by the shorter of both lengths
pub coded_front : (entries : List Posting) (n : ℕ) → 0 < length entries → n ≡ min (length entries) 128 → coded entries ≡ block_words (take n entries) ++ coded (drop n entries)
coded_front entries n some e =
    let other : n ≡ min 128 (length entries) = omega (arith, e) in
    let front : take n entries ≡ take 128 entries = ap (λ k. take k entries) other ∙ take_min 128 entries in
    let back : drop n entries ≡ drop 128 entries = ap (λ k. drop k entries) other ∙ drop_min 128 entries in
    rw (front, back) (coded_first entries some)

-- a list of at most 128 entries is one block
pub coded_block : (block : List Posting) → 0 < length block → length block ≤ 128 → coded block ≡ block_words block
coded_block block some few =
    rw (coded_first block some, take_all 128 block few, drop_all 128 block few, coded_none) (append-nil (block_words block))

coded_append_from : (blocks : ℕ) (xs block : List Posting) → length xs ≡ 128 * blocks → coded (xs ++ block) ≡ coded xs ++ coded block
coded_append_from zero xs block e =
    let none : xs ≡ [] = nil_from_length xs (omega (arith, e)) in
    rw (none, coded_none) refl
coded_append_from (suc blocks) xs block e =
    let some : 0 < length xs = omega (arith, e) in
    let some' : 0 < length (xs ++ block) = omega (arith, some, length-append xs block) in
    let whole : 128 ≤ length xs = omega (arith, e) in
    let fewer : length (drop 128 xs) ≡ 128 * blocks = omega (arith, e, length-drop 128 xs) in
    coded_first (xs ++ block) some'
    ∙ ap (λ first. block_words first ++ coded (drop 128 (xs ++ block))) (take-append-le 128 xs block whole)
    ∙ ap (λ more. block_words (take 128 xs) ++ coded more) (drop-append-le 128 xs block whole)
    ∙ ap (λ words. block_words (take 128 xs) ++ words) (coded_append_from blocks (drop 128 xs) block fewer)
    ∙ sym (append_assoc (block_words (take 128 xs)) (coded (drop 128 xs)) (coded block))
    ∙ ap (λ words. words ++ coded block) (sym (coded_first xs some))

-- whole blocks, and the entries behind them
pub coded-append : (xs block : List Posting) → length xs % 128 ≡ 0 → coded (xs ++ block) ≡ coded xs ++ coded block
coded-append xs block e = coded_append_from (length xs / 128) xs block (omega (arith, e))

-- the code grows by the words of a block
pub coded_more : (xs block : List Posting) → length xs % 128 ≡ 0 → 0 < length block → length block ≤ 128 → coded (xs ++ block) ≡ coded xs ++ block_words block
coded_more xs block e some few = coded-append xs block e ∙ ap (λ words. coded xs ++ words) (coded_block block some few)

-- ---- the round trip

-- the second word of a block gives both numbers
pub size_entries : (entries words : ℕ) → words < 65_536 → (65_536 * entries + words) / 65_536 ≡ entries
size_entries entries words l = omega (arith, l)

pub size_words : (entries words : ℕ) → words < 65_536 → (65_536 * entries + words) % 65_536 ≡ words
size_words entries words l = omega (arith, l)

block_back : (block : List Posting) (more : ℕ) (words : List ℕ) → length block ≤ 128 → AllFollow origin block →
    decoded_blocks (suc more) (block_words block ++ words) ≡ block ++ decoded_blocks more words
block_back block more words few all =
    let short : length (block_code block) < 65_536 = omega (arith, length-block_code block few) in
    rw (
      size_entries (length block) (length (block_code block)) short,
      size_words (length block) (length (block_code block)) short,
      take_at (block_code block) words (length (block_code block)) refl,
      drop_at (block_code block) words (length (block_code block)) refl,
      packed_back (bytes_behind origin block) (AreBytes-behind origin block all),
      entries_back origin block (filling (bytes_behind origin block)) all,
    ) refl

blocks_back : (n m : ℕ) (entries : List Posting) → length entries ≤ n → length (coded_blocks n entries) ≤ m → AllFollow origin entries → decoded_blocks m (coded_blocks n entries) ≡ entries
blocks_back n zero [] p q all = refl
blocks_back n (suc m) [] p q all = refl
blocks_back zero m (e ∷ entries) p q all = absurd (omega (arith, p))
blocks_back (suc n) zero (e ∷ entries) p q all = absurd (omega (arith, q))
blocks_back (suc n) (suc m) (e ∷ entries) p q all =
    let fewer : length (drop 127 entries) ≤ n = omega (arith, length-drop 127 entries) in
    let shorter : length (coded_blocks n (drop 127 entries)) ≤ m =
    omega (arith, q, length-append (block_code (e ∷ take 127 entries)) (coded_blocks n (drop 127 entries))) in
    block_back (e ∷ take 127 entries) m (coded_blocks n (drop 127 entries)) (omega (arith, length-take 127 entries)) (all.0, AllFollow-take 127 e entries all.1)
    ∙ ap (λ more. (e ∷ take 127 entries) ++ more) (blocks_back n m (drop 127 entries) fewer shorter (AllFollow-drop 127 e entries all.1))
    ∙ ap (λ more. e ∷ more) (take-append-drop 127 entries)

-- a list within the limits is read back from its code
pub decoded-coded : (entries : List Posting) → is_list entries ≡ true → decoded (coded entries) ≡ entries
unfolding coded decoded
decoded-coded entries l = blocks_back (length entries) (length (coded entries)) entries (omega arith) (omega arith) (AllFollow-list entries l)

-- two lists with one code are one
pub same_from_coded : (xs ys : List Posting) → is_list xs ≡ true → is_list ys ≡ true → coded xs ≡ coded ys → xs ≡ ys
same_from_coded xs ys p q e = sym (decoded-coded xs p) ∙ ap decoded e ∙ decoded-coded ys q
