use Rattle.reading.proofs.Counting.{found}
use Rattle.reading.proofs.counter.Counter.over.Goals as goal

pub returns : goal.returns
returns c =
    let r = c.in_ok-read.ensures in
    found _ _ c.args.self _ c.requires r.answer r.law r.held
