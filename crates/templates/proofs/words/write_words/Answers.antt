use Rattle.std.proofs.Common.{refl}
use Rattle.templates.proofs.WordsWritten.{word_written, words_written}
use Rattle.templates.proofs.words.write_words.Goals as goal

pub loop-i-preserved : goal.loop-i-preserved
loop-i-preserved c = word_written c.args.words.now c.args.out.now c.loop-i.out c.loop-i.i c.index-words-i.result c.loop-i-test.true c.index-words-i.is
    c.requires c.loop-i.auto.out c.loop-i.invariant c.write_word.new.out _ refl c.write_word.ensures

pub returns : goal.returns
returns c = words_written c.args.words.now c.args.out.now c.loop-i.out c.loop-i.i c.loop-i-test.false c.loop-i.auto.i-end c.loop-i.invariant
