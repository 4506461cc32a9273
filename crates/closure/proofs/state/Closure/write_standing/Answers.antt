use Rattle.std.proofs.Common.{ap, ◌∙◌, arith}
use Rattle.closure.proofs.Writes.{lent_is, root_written}
use Rattle.closure.proofs.state.Closure.write_standing.Goals as goal

pub returns : goal.returns
returns c =
    let m = c.args.self.now in
    let same =
    lent_is m _ _ _ _ _ _ c.used-2.ensures c.used-3.ensures c.used-4.ensures c.deref.ensures.value c.deref-2.ensures.value c.deref-3.ensures.value in
    let standing = root_written m _ c.root.result c.args.output.now c.args.scratch.now (omega arith) same c.root.ensures in
    record {
      answer = c.write_code.ensures.answer ∙ ap (λ w. w.answer) standing;
      output = c.write_code.ensures.output ∙ ap (λ w. w.output) standing;
      scratch = c.write_code.ensures.scratch ∙ ap (λ w. w.scratch) standing;
    }
