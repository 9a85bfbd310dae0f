use Rattle.sq_typing.specs.FqlTexts.{word_in}
use Rattle.sq_typing.proofs.TogetherLemmas.{step}
use Rattle.sq_typing.proofs.fql_texts.each_word.Goals as goal

pub loop-operand-preserved : goal.loop-operand-preserved
loop-operand-preserved c =
    step word_in c.args.operands.now c.loop-operand.operand-index c.operand-item.result c.loop-operand.words c.in_ok-word.word c.in_ok-words.words _
    c.loop-operand-test.true c.operand-item.is c.in_ok-word.ensures c.in_ok-words.ensures c.loop-operand.invariant
