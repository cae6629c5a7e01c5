use Rattle.run_load.proofs.AskingLemmas.{asked_by, fails_by, answers_by}
use Rattle.run_load.proofs.asking.ask.Goals as goal

pub returns-clause-answers : goal.returns-clause-answers
returns-clause-answers g c =
    answers_by (g.M.Media.told c.args.base.now.media) c.args.question.now c.read.result c.requires.question c.args.base.now c.read.new.self
    c.requires.ready.going c.read.ensures.answered

pub returns-clause-asks : goal.returns-clause-asks
returns-clause-asks g c =
    asked_by (g.M.Media.told c.args.base.now.media) c.args.question.now c.read.result c.requires.question c.args.base.now c.read.new.self
    g.D.Disk c.requires.ready c.read.ensures.answered c.read.ensures.going c.read.ensures.untouched c.read.ensures.still

pub returns-clause-fails : goal.returns-clause-fails
returns-clause-fails g c = fails_by g.D.Disk c.read.result c.args.base.now c.read.new.self c.read.ensures.still c.read.ensures.cause
