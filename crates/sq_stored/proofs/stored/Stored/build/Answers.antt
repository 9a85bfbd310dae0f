use Rattle.std.proofs.Common.{◌≡◌, true}
use Rattle.std.specs.List.{list_all}
use Rattle.sq_model.specs.Valid.{is_item}
use Rattle.sq_stored.proofs.ItemLemmas.{item_fits}
use Rattle.sq_stored.proofs.stored.Stored.build.Goals as goal

pub push-requires : goal.push-requires
push-requires c =
    let items = c.as_slice-item-items.result.now in
    let schema = c.args.corpus.now.schema in
    let fit : list_all (is_item schema) items ≡ true = rw c.as_slice-item-items.ensures c.requires.items in
    item_fits schema items c.loop-item.item-index c.item-item.result fit c.loop-item-test.true c.item-item.is
