-- Entries of a block are read one after another.
use Rattle.std.proofs.Common.{◌≡◌, ℕ, ◌+◌, ◌-◌, ◌*◌, ◌/◌, ◌%◌, ◌^◌, ◌<◌, ◌≤◌, true, List, [], ◌∷◌, ◌++◌, length, take, drop, get_or, Some, None, refl, sym, ap, ◌∙◌, subst, arith, zero, suc, append_assoc, length-append, length-take, length-drop}
use Rattle.std.proofs.lemmas.List.{drop_more, drop_at, drop_all, drop-drop, length-take-le}
use Rattle.std.proofs.lemmas.Option.{slice_get-get_or}
use Rattle.std.proofs.lemmas.Bool.{cases_lt}
use Rattle.std.proofs.Common.{inl, inr}
use Rattle.std.specs.Prelude.{min, slice_get}
use Rattle.sq_coded.specs.Coded.{Follows, AllFollow, is_list, origin, numbers_bytes, difference, bytes_behind, block_code, block_words, last_row, coded_blocks, coded, word_bytes, unpacked}
use Rattle.sq_coded.specs.Reading.{IsInBlock, IsAtEntry}
use Rattle.sq_coded.specs.declared.posting.Posting.{Posting}
use Rattle.sq_coded.proofs.NumberLemmas.{packed_back, filling, unpacked-append}
use Rattle.sq_coded.proofs.BlockLemmas.{AllFollow-list, AllFollow-take, AllFollow-drop, AreBytes-behind, length-block_code}
use Rattle.sq_coded.proofs.CodedLemmas.{coded_none, coded_front, size_entries, size_words}

-- ---- places of a list

pub drop_get : {X : Type 0} (xs : List X) (n : ℕ) (x : X) → slice_get xs n ≡ Some x → drop n xs ≡ x ∷ drop (n + 1) xs
drop_get [] n x e = cc
drop_get (y ∷ xs) zero x e = let same : y ≡ x = cc in ap (λ z. z ∷ xs) same
drop_get (y ∷ xs) (suc n) x e =
    let m : suc n + 1 ≡ suc (n + 1) = omega arith in rw m (drop_get xs n x e)

pub drop_none : {X : Type 0} (xs : List X) (n : ℕ) → slice_get xs n ≡ None → drop n xs ≡ []
drop_none [] zero e = refl
drop_none [] (suc n) e = refl
drop_none (y ∷ xs) zero e = cc
drop_none (y ∷ xs) (suc n) e = drop_none xs n e

pub get_dropped : {X : Type 0} (xs : List X) (n : ℕ) (x : X) (more : List X) → drop n xs ≡ x ∷ more → slice_get xs n ≡ Some x
get_dropped [] zero x more e = cc
get_dropped [] (suc n) x more e = cc
get_dropped (y ∷ xs) zero x more e = let same : y ≡ x = cc in ap Some same
get_dropped (y ∷ xs) (suc n) x more e = get_dropped xs n x more e

pub drop_further : {X : Type 0} (xs : List X) (n : ℕ) (first more : List X) (k : ℕ) → drop n xs ≡ first ++ more → length first ≡ k → drop (n + k) xs ≡ more
drop_further xs n first more k e many = sym (drop-drop k n xs) ∙ ap (drop k) e ∙ drop_at first more k many

-- ---- bytes

pub byte_of_word : (ws : List ℕ) (next word left w b : ℕ) (bytes : List ℕ) → left ≤ 0 → slice_get ws next ≡ Some w → word_bytes left word ++ unpacked (drop next ws) ≡ b ∷ bytes →
    (w % 256 ≡ b) × ((w / 256 % 256 ∷ w / 256 / 256 % 256 ∷ w / 256 / 256 / 256 % 256 ∷ unpacked (drop (next + 1) ws)) ≡ bytes)
byte_of_word ws next word zero w b bytes none here e =
    let all : (w % 256 ∷ w / 256 % 256 ∷ w / 256 / 256 % 256 ∷ w / 256 / 256 / 256 % 256 ∷ unpacked (drop (next + 1) ws)) ≡ b ∷ bytes =
    sym (ap unpacked (drop_get ws next w here)) ∙ e in
    (cc, cc)
byte_of_word ws next word (suc left) w b bytes none here e = absurd (omega (arith, none))

pub no_byte : (ws : List ℕ) (next word left b : ℕ) (bytes : List ℕ) → left ≤ 0 → slice_get ws next ≡ None → word_bytes left word ++ unpacked (drop next ws) ≡ b ∷ bytes → ⊥
no_byte ws next word zero b bytes none end e = let all : [] ≡ b ∷ bytes = sym (ap unpacked (drop_none ws next end)) ∙ e in cc
no_byte ws next word (suc left) b bytes none end e = absurd (omega (arith, none))

-- ---- entries

last_row_behind : (e : Posting) (entries : List Posting) → 0 < length entries → last_row (e ∷ entries) ≡ last_row entries
last_row_behind e [] some = absurd (omega (arith, some))
last_row_behind e (f ∷ entries) some = refl

-- the entry that is read next, and what is left of the block behind it
pub record NextEntry (entries : List Posting) (n : ℕ) (before : Posting) (more : ℕ) (bytes : List ℕ) (last end : ℕ) : Type 0 where
  pub entry : Posting
  pub rest : List ℕ
  pub there : slice_get entries n ≡ Some entry
  pub follows : Follows before entry
  pub bytes_are : bytes ≡ numbers_bytes (difference before entry) ++ rest
  pub block : IsInBlock entries (n + 1) entry (more - 1) rest last end

pub next_entry : (entries : List Posting) (n : ℕ) (before : Posting) (more : ℕ) (bytes : List ℕ) (last end : ℕ) → AllFollow before (drop n entries) → 0 < more → IsInBlock entries n before more bytes last end
    → NextEntry entries n before more bytes last end
next_entry entries n before zero bytes last end follow some block = absurd (omega (arith, some))
next_entry entries n before (suc m) bytes last end follow some block =
    let below : n < length entries = omega (arith, block.within) in
    let e = get_or entries n origin in
    let at : drop n entries ≡ e ∷ drop (n + 1) entries = drop_more entries n origin below in
    let all : AllFollow before (e ∷ drop (n + 1) entries) = subst (AllFollow before) at follow in
    let first = bytes_behind before (take (suc m) (drop n entries)) in
    let tail = drop (length first) bytes in
    let mine = bytes_behind e (take m (drop (n + 1) entries)) in
    let first_is : first ≡ numbers_bytes (difference before e) ++ mine = ap (λ xs. bytes_behind before (take (suc m) xs)) at in
    let less : suc m - 1 ≡ m = omega arith in
    let place : n + suc m ≡ n + 1 + m = omega arith in
    record {
      entry = e;
      rest = mine ++ tail;
      there = slice_get-get_or entries n origin below;
      follows = all.0;
      bytes_are = block.bytes_are ∙ ap (λ xs. xs ++ tail) first_is ∙ append_assoc (numbers_bytes (difference before e)) mine tail;
      block = subst (λ k. IsInBlock entries (n + 1) e k (mine ++ tail) last end) (sym less) (record {
        within = omega (arith, block.within);
        bytes_are = ap (λ xs. mine ++ xs) (sym (drop_at mine tail (length mine) refl));
        last_is = λ some'. sym (last_row_behind e (take m (drop (n + 1) entries)) (omega (arith, some', block.within, length-drop (n + 1) entries, length-take m (drop (n + 1) entries))))
            ∙ ap (λ xs. last_row (take (suc m) xs)) (sym at) ∙ block.last_is (omega arith);
        behind = block.behind ∙ ap (λ k. coded (drop k entries)) place;
      });
    }

AllFollow-at : (before : Posting) (entries : List Posting) (at : ℕ) (e : Posting) → AllFollow before entries → slice_get entries at ≡ Some e → AllFollow e (drop (at + 1) entries)
AllFollow-at before [] at e all there = cc
AllFollow-at before (x ∷ entries) zero e all there = let same : x ≡ e = cc in subst (λ y. AllFollow y entries) same all.1
AllFollow-at before (x ∷ entries) (suc at) e all there =
    let m : suc at + 1 ≡ suc (at + 1) = omega arith in rw m (AllFollow-at x entries at e all.1 there)

-- what stands behind an entry of a list follows it
pub follow_behind : (entries : List Posting) (at : ℕ) (e : Posting) → is_list entries ≡ true → slice_get entries at ≡ Some e → AllFollow e (drop (at + 1) entries)
follow_behind entries at e list there = AllFollow-at origin entries at e (AllFollow-list entries list) there

pub follow_origin : (entries : List Posting) (at : ℕ) → is_list entries ≡ true → AllFollow origin (drop at entries)
follow_origin entries at list = AllFollow-drop at origin entries (AllFollow-list entries list)

-- ---- blocks

-- a block that begins at a word, with its number of entries and of words
pub record BlockAt (entries : List Posting) (at end : ℕ) : Type 0 where
  pub count : ℕ
  pub words : ℕ
  pub some : 0 < count
  pub few : count ≤ 128
  pub short : words ≤ 480
  pub within : at + count ≤ length entries
  pub last : ℕ
  pub place : end + 2 + words ≤ length (coded entries)
  pub last_is : last ≡ last_row (take count (drop at entries))
  pub first : slice_get (coded entries) end ≡ Some last
  pub second : slice_get (coded entries) (end + 1) ≡ Some (65_536 * count + words)
  pub block : IsInBlock entries at origin count (unpacked (drop (end + 2) (coded entries))) last (end + 2 + words)

pub block_at : (entries : List Posting) (at end : ℕ) → is_list entries ≡ true → drop end (coded entries) ≡ coded (drop at entries) → at < length entries → BlockAt entries at end
block_at entries at end list e below =
    let left : length (drop at entries) ≡ length entries - at = length-drop at entries in
    let n = min (length (drop at entries)) 128 in
    let block = take n (drop at entries) in
    let more = drop n (drop at entries) in
    let code = block_code block in
    let words = coded entries in
    let count : length block ≡ n = length-take-le n (drop at entries) (omega arith) in
    let all : drop end words ≡ block_words block ++ coded more = e ∙ coded_front (drop at entries) n (omega (arith, left, below)) refl in
    let follow : AllFollow origin block = AllFollow-take n origin (drop at entries) (follow_origin entries at list) in
    let second : drop (end + 1) words ≡ (65_536 * length block + length code) ∷ (code ++ coded more) =
    drop_further words end (last_row block ∷ []) ((65_536 * length block + length code) ∷ (code ++ coded more)) 1 all refl in
    let third : drop (end + 2) words ≡ code ++ coded more =
    drop_further words end (last_row block ∷ (65_536 * length block + length code) ∷ []) (code ++ coded more) 2 all refl in
    let behind : drop (end + 2 + length code) words ≡ coded more = drop_further words (end + 2) code (coded more) (length code) third refl in
    let tail = filling (bytes_behind origin block) ++ unpacked (coded more) in
    let bytes : unpacked (drop (end + 2) words) ≡ bytes_behind origin block ++ tail =
    ap unpacked third ∙ unpacked-append code (coded more)
    ∙ ap (λ xs. xs ++ unpacked (coded more)) (packed_back (bytes_behind origin block) (AreBytes-behind origin block follow))
    ∙ append_assoc (bytes_behind origin block) (filling (bytes_behind origin block)) (unpacked (coded more)) in
    record {
      count = n;
      words = length code;
      some = omega (arith, left, below);
      few = omega arith;
      short = length-block_code block (omega (arith, count));
      within = omega (arith, left, below);
      last = last_row block;
      last_is = refl;
      place = omega (arith, ap length all, length-drop end words, length-append code (coded more));
      first = get_dropped words end (last_row block) _ all;
      second = get_dropped words (end + 1) _ (code ++ coded more) second ∙ ap (λ k. Some (65_536 * k + length code)) count;
      block = record {
        within = omega (arith, left, below);
        bytes_are = bytes ∙ ap (λ xs. bytes_behind origin block ++ xs) (sym (ap (drop (length (bytes_behind origin block))) bytes ∙ drop_at (bytes_behind origin block) tail (length (bytes_behind origin block)) refl));
        last_is = λ some. refl;
        behind = behind ∙ ap coded (drop-drop n at entries);
      };
    }

-- where no block begins, no entry is left
pub none_left : (entries : List Posting) (at end : ℕ) → is_list entries ≡ true → drop end (coded entries) ≡ coded (drop at entries) → slice_get (coded entries) end ≡ None → length entries ≤ at
none_left entries at end list e none = elim (cases_lt at (length entries)) [
  | inl below ↦ (let b = (block_at entries at end list e below).first in let no : None ≡ Some (block_at entries at end list e below).last = sym none ∙ b in cc)
  | inr past ↦ past
]

-- where a block begins, an entry is left
pub some_left : (entries : List Posting) (at end word : ℕ) → drop end (coded entries) ≡ coded (drop at entries) → slice_get (coded entries) end ≡ Some word → at < length entries
some_left entries at end word e some = elim (cases_lt at (length entries)) [
  | inl below ↦ below
  | inr past ↦ (let no : [] ≡ word ∷ drop (end + 1) (coded entries) = sym coded_none ∙ ap coded (sym (drop_all at entries past)) ∙ sym e ∙ drop_get (coded entries) end word some in cc)
]

-- ---- how many entries words can have

blocks_many : (n : ℕ) (entries : List Posting) → length entries ≤ n → length entries ≤ 64 * length (coded_blocks n entries)
blocks_many n [] l = omega arith
blocks_many zero (e ∷ entries) l = absurd (omega (arith, l))
blocks_many (suc n) (e ∷ entries) l =
    let fewer : length (drop 127 entries) ≤ n = omega (arith, length-drop 127 entries) in
    let more = blocks_many n (drop 127 entries) fewer in
    omega (arith, more, length-drop 127 entries, length-append (block_code (e ∷ take 127 entries)) (coded_blocks n (drop 127 entries)))

pub coded_many : (entries : List Posting) → length (coded entries) < 2 ^ 32 → length entries < 2 ^ 40
unfolding coded
coded_many entries l = let k : length (coded entries) < 4_294_967_296 = l in
    let m : length entries < 1_099_511_627_776 = omega (arith, k, blocks_many (length entries) entries (omega arith)) in m

-- ---- a block that a reader begins, by its first two words

pub record Begun (entries : List Posting) (at end last size : ℕ) : Type 0 where
  pub some : 0 < size / 65_536
  pub place : end + 2 + size % 65_536 ≤ length (coded entries)
  pub block : IsInBlock entries at origin (size / 65_536) (unpacked (drop (end + 2) (coded entries))) last (end + 2 + size % 65_536)

pub begun : (entries : List Posting) (at end last size : ℕ) → is_list entries ≡ true → drop end (coded entries) ≡ coded (drop at entries)
    → slice_get (coded entries) end ≡ Some last → slice_get (coded entries) (end + 1) ≡ Some size → Begun entries at end last size
begun entries at end last size list e first second =
    let b = block_at entries at end list e (some_left entries at end last e first) in
    let one : Some b.last ≡ Some last = sym b.first ∙ first in
    let last_is : b.last ≡ last = cc in
    let two : Some (65_536 * b.count + b.words) ≡ Some size = sym b.second ∙ second in
    let size_is : 65_536 * b.count + b.words ≡ size = cc in
    let short : b.words < 65_536 = omega (arith, b.short) in
    let count : b.count ≡ size / 65_536 = sym (size_entries b.count b.words short) ∙ ap (λ n. n / 65_536) size_is in
    let words : b.words ≡ size % 65_536 = sym (size_words b.count b.words short) ∙ ap (λ n. n % 65_536) size_is in
    record {
      some = subst (λ n. 0 < n) count b.some;
      place = subst (λ n. end + 2 + n ≤ length (coded entries)) words b.place;
      block = subst (λ n. IsInBlock entries at origin n (unpacked (drop (end + 2) (coded entries))) last (end + 2 + size % 65_536)) count
          (subst (λ n. IsInBlock entries at origin b.count (unpacked (drop (end + 2) (coded entries))) last (end + 2 + n)) words
          (subst (λ n. IsInBlock entries at origin b.count (unpacked (drop (end + 2) (coded entries))) n (end + 2 + b.words)) last_is b.block));
    }

-- a block has a second word
pub second_there : (entries : List Posting) (at end last : ℕ) → is_list entries ≡ true → drop end (coded entries) ≡ coded (drop at entries)
    → slice_get (coded entries) end ≡ Some last → slice_get (coded entries) (end + 1) ≡ None → ⊥
second_there entries at end last list e first none =
    let b = block_at entries at end list e (some_left entries at end last e first) in
    let no : None ≡ Some (65_536 * b.count + b.words) = sym none ∙ b.second in cc

-- the state at an entry that was read
pub at_entry : (entries : List Posting) (n : ℕ) (before : Posting) (more : ℕ) (bytes : List ℕ) (last end : ℕ) (e : Posting) (rest : List ℕ) (next : NextEntry entries n before more bytes last end)
    → e ≡ next.entry → rest ≡ next.rest → IsAtEntry entries n (Some e) (more - 1) rest last end
at_entry entries n before more bytes last end e rest next same same_rest = (
  next.there ∙ ap Some (sym same),
  subst (λ (x : Posting). IsInBlock entries (n + 1) x (more - 1) rest last end) (sym same)
      (subst (λ (r : List ℕ). IsInBlock entries (n + 1) next.entry (more - 1) r last end) (sym same_rest) next.block),
)
