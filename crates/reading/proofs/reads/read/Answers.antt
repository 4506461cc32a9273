use Rattle.std.proofs.Common.{◌≡◌, ℕ, ◌≤◌, List, length, get_or, drop, Err, Result, sym, refl, ap, ◌∙◌, subst, arith, w8, Fits, rules}
use Rattle.std.proofs.lemmas.List.{take_rest}
use Rattle.std.proofs.lemmas.Result.{err_from_is_err_and}
use Rattle.node.specs.declared.faults.Fault.{Fault}
use Rattle.code.specs.Scans.{reading}
use Rattle.code.specs.Verdicts.{verdict, told, Bytes}
use Rattle.code.specs.Law.{ReadingLaw}
use Rattle.code.proofs.Exact.{answered}
use Rattle.code.proofs.Lawful.{reading_law}
use Rattle.reading.specs.RightSides.{top_down}
use Rattle.reading.specs.Frontiers.{Falling}
use Rattle.reading.proofs.Loops.{located_depth, located_fits, Passed, passed, begins, nearest_is, turned, stopped}
use Rattle.reading.proofs.reads.read.Given as given
use Rattle.reading.proofs.reads.read.Goals as goal
use Rattle.reading.proofs.reads.read.Goals.{In_ok-node}

-- the promises, from the end of the reading
promised : (code : List ℕ) → ((i : ℕ) → Fits w8 (get_or code i 0)) → {r : Result ℕ Fault} → r ≡ (reading code).ended → {P : Type 0} → P → record { answer : r ≡ told (verdict code); held : P; law : ReadingLaw code }
promised code fits e p =
    let b : Bytes code = λ i. (fits i).fits in
    record { answer = e ∙ answered code b; held = p; law = reading_law code b }

ok : (g : given.Over) (c : In_ok-node g) → Passed c.loop-nearest.number c.in-Some.opening.depth c.loop-nearest.rest.now c.in_ok-node.node
ok g c = passed _ _ _ _ _ _ _ c.spell.ensures c.in_ok-node.ensures

pub loop-nearest-init : goal.loop-nearest-init
loop-nearest-init g c = begins _ _ _ _ _ c.new-frontier.ensures refl

pub returns-in_err-node : goal.returns-in_err-node
returns-in_err-node g c =
    let u = nearest_is _ c.in-Some.is c.loop-nearest.invariant in
    let p = err_from_is_err_and c.from_residual.result c.from_residual.ensures.1 in
    let r = stopped _ u c.spell.ensures _ c.in_err-node.ensures in
    promised c.args.code.now c.type_inv.code (p.1 ∙ ap Err p.2 ∙ r.0) r.1

pub open-nearest-requires : goal.open-nearest-requires
open-nearest-requires g c =
    let u = nearest_is _ c.in-Some.is c.loop-nearest.invariant in
    let passed = ok g (goal.at.open-nearest-requires g c).In_ok-node in
    let deep = located_depth c.loop-nearest.frontier.binders c.in-Some.opening c.locate-located.ensures in
    record {
      few = omega (arith, u.few, passed.room);
      shallow = omega (arith, deep);
      fitting = located_fits c.loop-nearest.frontier.binders c.in-Some.opening c.locate-located.ensures passed.fitting;
      falling = subst (λ d. Falling d (top_down c.loop-nearest.frontier.right_sides)) (sym deep) u.nested;
    }

pub slice_bounds-rest-count : goal.slice_bounds-rest-count
slice_bounds-rest-count g c = omega (arith, (ok g (goal.at.slice_bounds-rest-count g c).In_ok-node).wide)

pub slice_bounds-rest-start : goal.slice_bounds-rest-start
slice_bounds-rest-start g c =
    let wide : c.width.result ≤ length c.loop-nearest.rest.now = omega (arith, (ok g (goal.at.slice_bounds-rest-start g c).In_ok-node).wide) in
    search rules

pub loop-nearest-preserved : goal.loop-nearest-preserved
loop-nearest-preserved g c =
    let u = nearest_is _ c.in-Some.is c.loop-nearest.invariant in
    let rest = take_rest c.loop-nearest.rest.now c.width.result ∙ ap (λ w. drop w c.loop-nearest.rest.now) c.width.ensures in
    turned _ u c.spell.ensures _ _ c.in_ok-node.ensures c.locate-located.ensures c.open-nearest.ensures rest c.put.ensures

pub returns : goal.returns
returns g c =
    let u = nearest_is _ c.in_default.is c.loop-nearest.invariant in
    promised c.args.code.now c.type_inv.code (c.finish.ensures ∙ u.ended) u.held
