use Rattle.std.proofs.Common.{◌≡◌, Some, arith}
use Rattle.std.specs.List.{slice_get}
use Rattle.closure_tables.specs.Presented.{chain_in}
use Rattle.closure.specs.Views.{tables_of}
use Rattle.closure.proofs.Links as links
use Rattle.closure.proofs.state.Closure.fetch.Goals as goal
use Rattle.closure.proofs.state.Closure.fetch.Goals.{In-Some}

found : (c : In-Some) → slice_get (chain_in (tables_of c.args.self.now).entries c.args.self.now.hand.chain) c.args.index ≡ Some c.in-Some.entry
found c = links.hand_linked c.args.self.now c.args.index _ _ _ c.requires.hand c.used.ensures c.deref.ensures.value c.in-Some.ensures

pub unreachable-requires : goal.unreachable-requires
unreachable-requires c =
    let m = c.args.self.now in
    let none = links.hand_linked m c.args.index _ _ _ c.requires.hand c.used.ensures c.deref.ensures.value c.in_default.ensures in
    links.place_filled m c.args.index c.requires.hand none

pub index-requires : goal.index-requires
index-requires c =
    let m = c.args.self.now in
    omega (arith, links.entry_low m c.args.index c.in-Some.entry c.requires.hand (found (goal.at.index-requires c).In-Some), m.levels.entries.within, m.entries_fit)

pub invariant_of-self-2 : goal.invariant_of-self-2
invariant_of-self-2 c =
    let m = c.args.self.now in
    let kept = links.substitution_keeps m c.args.index c.in-Some.entry c.index.result.now c.requires.hand (found (goal.at.invariant_of-self-2 c).In-Some) c.index.ensures in
    record { nodes_fit = m.nodes_fit; entries_fit = m.entries_fit; stack_fit = m.stack_fit; kept = kept }

pub returns : goal.returns
returns c =
    links.substitution_made c.args.self.now c.args.index c.in-Some.entry c.index.result.now c.requires.hand (found (goal.at.returns c).In-Some) c.index.ensures
