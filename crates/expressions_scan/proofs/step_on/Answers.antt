use Rattle.expressions_steps.specs.Scan.{nodes_with, held_by}
use Rattle.expressions_steps.proofs.Start.{few}
use mathlib.Core.Path.{refl, sym, ap}
use native.Mathlib.Omega.{arith}
use Rattle.expressions_scan.proofs.step_on.Goals as goal

pub bounds-nodes-m : goal.bounds-nodes-m
bounds-nodes-m c = let z = few _ _ _ _ c.requires.1 in omega arith

pub offset_bounds-nodes-m : goal.offset_bounds-nodes-m
offset_bounds-nodes-m c = let z = few _ _ _ _ c.requires.1 in omega arith

pub returns-in-Ends : goal.returns-in-Ends
returns-in-Ends c = (
  λ T sy. c.advance-step.ensures T sy c.args.nodes.now c.args.depth c.requires.1 c.requires.2 refl,
  sym (ap (nodes_with c.args.nodes.now c.args.depth) c.in-Ends.is),
  let e = ap held_by c.in-Ends.is in omega arith,
)

pub bounds-nodes-m-in-Stays : goal.bounds-nodes-m-in-Stays
bounds-nodes-m-in-Stays c = let z = few _ _ _ _ c.requires.1 in omega arith

pub offset_bounds-nodes-m-in-Stays : goal.offset_bounds-nodes-m-in-Stays
offset_bounds-nodes-m-in-Stays c = let z = few _ _ _ _ c.requires.1 in omega arith

pub returns-in-Stays : goal.returns-in-Stays
returns-in-Stays c = (
  λ T sy. c.advance-step.ensures T sy c.args.nodes.now c.args.depth c.requires.1 c.requires.2 refl,
  sym (ap (nodes_with c.args.nodes.now c.args.depth) c.in-Stays.is),
  let p = c.requires.2 in let e = ap held_by c.in-Stays.is in omega arith,
)

pub bounds-nodes-m-in-Opens : goal.bounds-nodes-m-in-Opens
bounds-nodes-m-in-Opens c = let z = few _ _ _ _ c.requires.1 in omega arith

pub offset_bounds-nodes-m-in-Opens : goal.offset_bounds-nodes-m-in-Opens
offset_bounds-nodes-m-in-Opens c = let z = few _ _ _ _ c.requires.1 in omega arith

pub bounds-nodes-depth : goal.bounds-nodes-depth
bounds-nodes-depth c = let z = few _ _ _ _ c.requires.1 in omega arith

pub offset_bounds-nodes-depth : goal.offset_bounds-nodes-depth
offset_bounds-nodes-depth c = let z = few _ _ _ _ c.requires.1 in omega arith

pub overflow_add-result : goal.overflow_add-result
overflow_add-result c = let z = few _ _ _ _ c.requires.1 in omega arith

pub returns-in-Opens : goal.returns-in-Opens
returns-in-Opens c = (
  λ T sy. c.advance-step.ensures T sy c.args.nodes.now c.args.depth c.requires.1 c.requires.2 refl,
  sym (ap (nodes_with c.args.nodes.now c.args.depth) c.in-Opens.is),
  let p = c.requires.2 in let e = ap held_by c.in-Opens.is in omega arith,
)
