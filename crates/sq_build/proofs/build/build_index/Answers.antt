use Rattle.std.proofs.Common.{sym, subst}
use Rattle.sq_postings.specs.StandsFor.{StandsFor}
use Rattle.sq_build.proofs.BuildLemmas.{kept, stands}
use Rattle.sq_build.proofs.build.build_index.Goals as goal

pub new-requires : goal.new-requires
new-requires c = kept c.args.corpus.now c.in_ok-parts.parts c.requires c.in_ok-parts.ensures

pub returns : goal.returns
returns c =
    subst (λ index. StandsFor index c.args.corpus.now) (sym c.new.ensures) (stands c.args.corpus.now c.in_ok-parts.parts c.requires c.in_ok-parts.ensures)
