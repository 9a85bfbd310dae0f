use Rattle.std.proofs.Common.{◌≡◌, ◌+◌, ◌*◌, ◌/◌, ◌≤◌, ◌++◌, ◌∷◌, [], length, ap, ◌∙◌, arith}
use Rattle.sq_coded.specs.Coded.{origin, bytes_behind, packed, last_row}
use Rattle.sq_coded.proofs.BlockLemmas.{length-bytes_behind}
use Rattle.sq_coded.proofs.WriteLemmas.{length-packed_is}
use Rattle.sq_coded.proofs.code.block_words.Goals as goal

pub overflow_cast-len : goal.overflow_cast-len
overflow_cast-len c =
    let few : length c.in_ok-bytes.bytes.items ≤ 1_920 = omega (arith, ap length c.in_ok-bytes.ensures, length-bytes_behind origin c.args.block.now, c.requires) in
    omega (arith, few, c.len.ensures, c.in_ok-bytes.bytes.ok.0)

pub overflow_add-block : goal.overflow_add-block
overflow_add-block c =
    let few : length c.in_ok-bytes.bytes.items ≤ 1_920 = omega (arith, ap length c.in_ok-bytes.ensures, length-bytes_behind origin c.args.block.now, c.requires) in
    omega (arith, few, c.len.ensures, c.in_ok-bytes.bytes.ok.0)

pub returns : goal.returns
returns c =
    let block = c.args.block.now in
    let bytes : c.deref.result.now ≡ bytes_behind origin block = c.deref.ensures.value ∙ c.in_ok-bytes.ensures in
    let size : 65_536 * length block + (c.len.result + 3) / 4 ≡ 65_536 * length block + length (packed (bytes_behind origin block)) =
    omega (arith, c.len.ensures, c.in_ok-bytes.bytes.ok.0, ap length c.in_ok-bytes.ensures, length-packed_is (bytes_behind origin block)) in
    c.in_ok-pack.ensures
    ∙ ap (λ words. words ++ packed c.deref.result.now) (c.in_ok-push-2.ensures.items
    ∙ ap (λ words. words ++ (65_536 * length block + (c.len.result + 3) / 4) ∷ []) (c.in_ok-push.ensures.items ∙ ap (λ words. words ++ c.last_row.result ∷ []) c.new-words.ensures.items))
    ∙ ap (λ row. row ∷ (65_536 * length block + (c.len.result + 3) / 4) ∷ packed c.deref.result.now) c.last_row.ensures
    ∙ ap (λ n. last_row block ∷ n ∷ packed c.deref.result.now) size
    ∙ ap (λ more. last_row block ∷ (65_536 * length block + length (packed (bytes_behind origin block))) ∷ packed more) bytes
