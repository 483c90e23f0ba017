-- The claim of the returned body is no empty one: of the body `return ..;` with a parameter `v: T`, given back as it was submitted, it
-- does not hold, whatever marks are put on it.
-- Assumes nothing.
use Rattle.std.proofs.Common.{◌≡◌, ℕ, Bool, not, T as So, List, [], ◌∷◌, sym, refl, ap, ◌∙◌, subst, arith}
use mathlib.Core.Option.{some, map, some-injective, none-ne-some}
use Rattle.tables.specs.Name.{same_bytes, starts_with}
use Rattle.tables.specs.Signature.{Entry}
use Rattle.tables_lookup.specs.First.{first_from, and_then, or_else}
use Rattle.tables_lookup.specs.Ty.{inside, struct_named, struct_shaped, struct_of_generic, struct_of_ty, struct_of, has_destructor, should_auto_delete, class_of_ty, class_of}
use Rattle.image_body.specs.Expr.{count_width, through}
use Rattle.image_body.specs.Stmt.{Block, done, expr_stmt, variable, assign, return, bare_return, block, if_else, if_then, while, jump}
use Rattle.rules.specs.Questions.{auto, is_temp_of, is_move_of, consumes, global_in}
use Rattle.rules.specs.Expr.{nobody, called}
use Rattle.rules.specs.Stack.{Stack}
use Rattle.rules.specs.Effects.{takes, handed, finish, effects}
use Rattle.rules.specs.Rules.{holding, drop_of, Decided, Switches, at_return, concerns, entered}
use Rattle.rules.specs.Report.{forget}
use Rattle.rules.specs.Run.{returning, deleting, Config, at, Steps, arrived, onward, start, Moment, moment, Reached, holds, Lost, Demand3}
use Rattle.rules.specs.AsReturned.{Marked, gathered, ReturnedBody}
use Rattle.rules.proofs.Nodes.{ident, literal, tables, param}
use Rattle.rules.proofs.Count.{after, after-steps}

abbrev pub taking : Entry
taking = record { receiver = 0; this = 0; params = param 1 ∷ [] }

abbrev pub returning-only : Block
returning-only = record { span = 10; code = return 11 literal 0 tt (done tt) }

-- with nothing put in
abbrev nothing : Decided
nothing = return 11 literal 0 [] (done [])

never : {A : Type 0} → ◌≡◌ {A = ℕ} 0 1 → A
never z = absurd (omega arith)

-- marks on no statements, and on a return alone, show that nothing is put in
no_end : (w : Switches) (m : Marked) → forget m ≡ done tt → gathered w m ≡ some (done [])
no_end w (done x) q = refl
no_end w (expr_stmt s e o r) q = never (cc)
no_end w (variable k s n t e r) q = never (cc)
no_end w (assign s e v t x r) q = never (cc)
no_end w (return s e t x r) q = never (cc)
no_end w (bare_return s t x r) q = never (cc)
no_end w (block s c r) q = never (cc)
no_end w (if_else s e ts t us u r) q = never (cc)
no_end w (if_then s e ts t r) q = never (cc)
no_end w (while s e ts t r) q = never (cc)
no_end w (jump k s x r) q = never (cc)

no_return : (w : Switches) (m : Marked) → forget m ≡ returning-only.code → gathered w m ≡ some nothing
no_return w (done x) q = never (cc)
no_return w (expr_stmt s e o r) q = never (cc)
no_return w (variable k s n t e r) q = never (cc)
no_return w (assign s e v t x r) q = never (cc)
no_return w (return s e t x r) q =
    let end : gathered w r ≡ some (done []) = no_end w r (cc) in
    let span : s ≡ 11 = cc in
    let value : e ≡ literal = cc in
    let ty : t ≡ 0 = cc in
    λ i. map (λ (z : Decided). return (span i) (value i) (ty i) [] z) (end i)
no_return w (bare_return s t x r) q = never (cc)
no_return w (block s c r) q = never (cc)
no_return w (if_else s e ts t us u r) q = never (cc)
no_return w (if_then s e ts t r) q = never (cc)
no_return w (while s e ts t r) q = never (cc)
no_return w (jump k s x r) q = never (cc)

-- what is held from the start to the end of every run
abbrev held : Stack Bool
held = entered holding tables (param 1 ∷ []) []

abbrev at_it : Moment
at_it = record { path = []; place = at_return nobody; drops = []; held = held }

ended : {k : Config} (cs : List Bool) (m : Moment) → Steps tables (at [] held cs) k → moment k ≡ some m → ⊥
ended cs m (arrived e) q = none-ne-some m (ap moment e ∙ q)
ended cs m (onward s) q = ended cs m s q

deleted : {k : Config} (cs : List Bool) (m : Moment) → Steps tables (at (deleting [] ∷ []) held cs) k → moment k ≡ some m → ⊥
deleted cs m (arrived e) q = none-ne-some m (ap moment e ∙ q)
deleted cs m (onward s) q = ended cs m s q

returned : {k : Config} (cs : List Bool) (m : Moment) → Steps tables (at (returning [] (at_return nobody) [] ∷ []) held cs) k → moment k ≡ some m → m ≡ at_it
returned cs m (arrived e) q = sym (some-injective at_it m (ap moment e ∙ q))
returned cs m (onward s) q = absurd (deleted cs m s q)

-- every run that comes to a moment is at the return and holds `v`
one-moment : {k : Config} (cs : List Bool) (m : Moment) → Steps tables (start tables (param 1 ∷ []) nothing cs) k → moment k ≡ some m → m ≡ at_it
unfolding same_bytes starts_with first_from and_then or_else count_width through is_temp_of is_move_of consumes global_in takes handed finish effects
one-moment cs m (arrived e) q = absurd (none-ne-some m (ap moment e ∙ q))
one-moment cs m (onward s) q = returned cs m s q

come : Reached tables (param 1 ∷ []) nothing at_it
unfolding same_bytes starts_with first_from and_then or_else count_width through is_temp_of is_move_of consumes global_in takes handed finish effects
come =
    let c = start tables (param 1 ∷ []) nothing [] in
    record { choices = []; config = after tables 1 c; steps = after-steps tables 1 c; stands = refl }

not-demanded : (w : Switches) → Demand3 (concerns w) tables (param 1 ∷ []) nothing → ⊥
unfolding same_bytes starts_with first_from and_then or_else inside struct_named struct_shaped struct_of_generic struct_of_ty struct_of has_destructor should_auto_delete class_of_ty class_of auto
not-demanded w d =
    let l : Lost tables (param 1 ∷ []) nothing at_it 1 = (d.passed_over at_it come 1 tt tt).0 tt in
    subst (λ (m : Moment). So (not (holds 1 m.held))) (one-moment l.reached.choices l.there l.reached.steps l.reached.stands) l.not_held

-- the body as submitted, whose parameter the return leaves behind, is not what demand 3 asks to be given back
pub not-returned : (w : Switches) → ReturnedBody w tables taking returning-only returning-only.code → ⊥
not-returned w r =
    not-demanded w (subst (λ (c : Decided). Demand3 (concerns w) tables (param 1 ∷ []) c)
    (some-injective _ _ (sym r.shown ∙ no_return w r.marked r.given)) (r.plain ((tt, tt), tt)))

-- nor is the returned value to be deleted: `return v;` with a delete of `v` put before it
abbrev deletes-returned : Decided
deletes-returned = return 11 (ident 12 1 1) 1 (drop_of 0 1 1 ∷ []) (done [])

pub returned-kept : (w : Switches) → Demand3 (concerns w) tables (param 1 ∷ []) deletes-returned → ⊥
unfolding same_bytes starts_with first_from and_then or_else inside struct_named struct_shaped struct_of_generic struct_of_ty struct_of has_destructor should_auto_delete class_of_ty class_of auto count_width through is_temp_of is_move_of consumes global_in takes handed finish effects
returned-kept w d =
    let c = start tables (param 1 ∷ []) deletes-returned [] in
    d.concerned_only (record { path = []; place = at_return (called 1 12); drops = drop_of 0 1 1 ∷ []; held = held })
    (record { choices = []; config = after tables 1 c; steps = after-steps tables 1 c; stands = refl }) 1 tt
