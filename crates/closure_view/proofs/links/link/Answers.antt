use Rattle.std.proofs.Common.{◌≡◌, get_or, Some, None, sym, ap, ◌∙◌, arith, rules, tests}
use Rattle.closure_tables.specs.Tables.{blank_entry}
use Rattle.closure_view.specs.Links.{linked}
use Rattle.closure_view.proofs.Chains.{of_some, turned_out}
use Rattle.closure_view.proofs.links.link.Goals as goal

pub returns : goal.returns
returns c =
    let es = c.args.entries.now in
    let run = c.try_fold.ensures.ran in
    turned_out es _ _ (λ e x q turn. (search (rules, tests), let on : (get_or es e blank_entry).next ≡ Some q.1 = search (rules, tests) in on))
    c.in_ok-chain.field-0 _ _ c.try_fold.result run.0 run.1 (run.2, run.3) (omega arith) run.4 run.5
    (of_some _ _ _ run.1 run.6 (λ x broken. (broken.5, λ same. let off : (get_or es run.3 blank_entry).next ≡ None = search (rules, tests) in off)))
    ∙ ap (λ o. linked es o c.args.index) (sym c.in_ok-chain.was)
