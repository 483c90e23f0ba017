-- The flat scope stack of Stack.antt and mod.rs's frames agree, and stay so under all that the pass does, all switches off.
-- Assumes nothing.
use Rattle.std.proofs.Common.{◌≡◌, ℕ, suc, ◌+◌, ◌<◌, ◌≤◌, Bool, true, false, cond, not, ◌&&◌, ◌||◌, T as So, eqb, leb, ◌⊎◌, List, [], ◌∷◌, ◌++◌, length, sym, refl, ap, ◌∙◌, subst, inl, inr, append-nil, arith, le→leb, eqb→eq, leb→le}
use mathlib.Core.Option.{Option, none, some}
use Rattle.tables.specs.Signature.{Param, Entry}
use Rattle.tables.specs.Tables.{Tables}
use Rattle.image_body.specs.Expr.{Expr}
use Rattle.image_body.specs.Stmt.{Code, Tree, Block, done, expr_stmt, variable, assign, return, bare_return, block, if_else, if_then, while, jump}
use Rattle.image.specs.Image.{Image}
use Rattle.rules.proofs.ByTag.{by-tag}
use Rattle.rules.specs.Effects.{resolve_all}
use Rattle.rules.specs.Questions.{auto, is_temp_of}
use Rattle.rules.specs.Expr.{Named, nobody, called, view, ident_in, name_in, is_call, ty_of}
use Rattle.rules.specs.Stack.{Static, Local, local, Stack, Shape, shape, in_frame, mark, lookup, pop, has, static_of}
use Rattle.rules.specs.State.{deleted, moved, consumed, State, alive, gone, is_alive, hand_state}
use Rattle.rules.specs.Effects.{Effect, use', kill, hand, bad_move, global_move, effects, expr_stmt_effects, take_over, assign_effects, assign_takes, hand_name}
use Rattle.rules.specs.Rules.{Drop, drop_of, states, sure_from, excludes, locals_of, apply, apply_all, doing, revived, register, merge, return_drops, drop_newest, drop_named, assign_drops, evaluate, after_expr, after_variable, before_assign, after_assign, exit, decide, entered, decide_body, at_return, at_jump, concerns, gather, off, on, end_drops, at_bare_return}
use Rattle.rules.specs.Report.{use_of, report_of, report_all, unused, left_behind, expr_bytes, code_bytes, report, body_start, reports, left}
use Rattle.rules.proofs.FrameRules.{hand_local, use_frames, report_frame, report_all_frames, report_frames, reports_frames, Var, States, insert, is_some, is_live, Frame, frame, Frames, push, pop_frame, register_local, entered_frames, or_else, newest, find_local, find_state, mark_as, mark_deleted, mark_moved, mark_consumed, mark_alive, move_if, hand_temp, merge_state, merge_name, frame_at, else_at, get_in, merge_frame, merge_frames, numbered, shape_of, apply_frames, apply_all_frames, doing_frames, scope_drops, last_drops, pre_drop, pre_delete_name, pre_delete_named, pre_delete, evaluate_frames, after_expr_frames, after_variable_frames, before_assign_frames, after_assign_frames, exit_frames, decide_frames, decide_body_frames, at_depth, declared_var, given_var, frame_gather, scope_gather, loop_gather, delete_of}
use Rattle.rules.proofs.Bools.{no≡, of≡, of-false, eqb-self}
use Rattle.rules.proofs.Shapes.{gather_none}

-- has one of a frame's locals the name
abbrev pub named : ℕ → List Var → Bool
named n [] = false
named n (v ∷ ls) = eqb v.name n || named n ls

-- The last stack is the locals of a frame with d frames outside it, each with the state that the frame's map m gives for its name, on top of τ.
pub data Over (d : ℕ) (m : States) (τ : Stack State) : List Var → Stack State → Type 0 where
  bottom : Over d m τ [] τ
  above : {v : Var} {a : State} {ls : List Var} {σ : Stack State} → m v.name ≡ some a → Over d m τ ls σ
      → Over d m τ (v ∷ ls) (local (at_depth d v) a ∷ σ)

-- k frames and a flat stack say the same: the frames' locals, with the number of frames outside as depth, are the stack's, in order; each has
-- the state that its frame's map gives for its name; and a frame's map has the names of its locals only.
pub data Agree : ℕ → Frames → Stack State → Type 0 where
  nothing : Agree 0 [] []
  framed : {d : ℕ} {m : States} {ls : List Var} {fs : Frames} {τ σ : Stack State} → Agree d fs τ → Over d m τ ls σ
      → ((n : ℕ) → is_some (m n) ≡ named n ls) → Agree (suc d) (frame ls m ∷ fs) σ

-- no local has depth d
abbrev Free : ℕ → Stack State → Type 0
Free d [] = Unit {0}
Free d (local s a ∷ σ) = (eqb s.depth d ≡ false) × Free d σ

eqb_comm : (m n : ℕ) → eqb m n ≡ eqb n m
eqb_comm m n = by-case (eqb m n) refl
  where
    by-case : (c : Bool) → eqb m n ≡ c → c ≡ eqb n m
    by-case true e = let q : m ≡ n = eqb→eq m n (of≡ (eqb m n) e) in sym (subst (λ (k : ℕ). eqb n k ≡ true) (sym q) (eqb-self n))
    by-case false e = sym (no≡ (eqb n m) λ t. let q : n ≡ m = eqb→eq n m t in let z : true ≡ false = sym (subst (λ (k : ℕ). eqb m k ≡ true) (sym q) (eqb-self m)) ∙ e in subst So z tt)

same : (m n : ℕ) → eqb m n ≡ true → m ≡ n
same m n e = eqb→eq m n (of≡ (eqb m n) e)

le-cases : (l d : ℕ) → (So (leb l d) → ⊥) → suc d ≤ l
le-cases l d f = let n : l ≤ d → ⊥ = λ h. f (le→leb l d h) in omega (arith, n)

and-false : (a b : Bool) → b ≡ false → (a && b) ≡ false
and-false true b e = e
and-false false b e = refl

free-same : (n d : ℕ) (f : State → State) (σ : Stack State) → Free d σ → in_frame n d f σ ≡ σ
free-same n d f [] t = refl
free-same n d f (local s a ∷ σ) t =
    ap (λ (b : Bool). local s (cond b (f a) a) ∷ in_frame n d f σ) (and-false (eqb s.name n) (eqb s.depth d) t.0)
    ∙ ap (λ (τ : Stack State). local s a ∷ τ) (free-same n d f σ t.1)

free-pop : (d : ℕ) (σ : Stack State) → Free d σ → pop d σ ≡ σ
free-pop d [] t = refl
free-pop d (local s a ∷ σ) t =
    ap (λ (b : Bool). cond b (pop d σ) (local s a ∷ pop d σ)) t.0 ∙ ap (λ (τ : Stack State). local s a ∷ τ) (free-pop d σ t.1)

free-over : {d : ℕ} (k : ℕ) {m : States} {τ : Stack State} {ls : List Var} {σ : Stack State} → d < k → Free k τ → Over d m τ ls σ → Free k σ
free-over k h t bottom = t
free-over {d} k h t (above e o) = (no≡ (eqb d k) (λ u. let q : d ≡ k = eqb→eq d k u in omega arith), free-over k h t o)

free : {d : ℕ} (k : ℕ) {fs : Frames} {σ : Stack State} → d ≤ k → Agree d fs σ → Free k σ
free k h nothing = tt
free k h (framed {d} g o q) = free-over k (omega arith) (free k (omega arith) g) o

-- f on what the frame says of a name, and w inserted into its map
over-some : {d : ℕ} {m : States} {τ : Stack State} {ls : List Var} {σ : Stack State} (n : ℕ) (f : State → State) (w : State) → Free d τ
    → ((a : State) → m n ≡ some a → f a ≡ w) → Over d m τ ls σ → Over d (insert n w m) τ ls (in_frame n d f σ)
over-some {d} {m} {τ} n f w t h bottom = subst (λ (ρ : Stack State). Over d (insert n w m) τ [] ρ) (sym (free-same n d f τ t)) bottom
over-some {d} {m} n f w t h (above {v} {a} e o) = above (value (eqb v.name n) refl) (over-some n f w t h o)
  where
    value : (c : Bool) → eqb v.name n ≡ c → cond c (some w) (m v.name) ≡ some (cond (c && eqb d d) (f a) a)
    value true q = rw eqb-self (ap some (sym (h a (subst (λ (k : ℕ). m k ≡ some a) (same v.name n q) e))))
    value false q = e

-- a mark in the frame
over-mark : {d : ℕ} {m : States} {τ : Stack State} {ls : List Var} {σ : Stack State} (n : ℕ) (f : State → State) (w : State) → Free d τ
    → ((a : State) → m n ≡ some a → f a ≡ w) → named n ls ≡ true → Over d m τ ls σ → Over d (insert n w m) τ ls (mark n f σ)
over-mark n f w t h z bottom = absurd (subst So (sym z) tt)
over-mark {d} {m} {τ} n f w t h z (above {v} {a} {ls} {σ} e o) = split (eqb v.name n) refl z (λ y. over-mark n f w t h y o)
  where
    s : Static
    s = at_depth d v

    split : (c : Bool) → eqb v.name n ≡ c → (c || named n ls) ≡ true → (named n ls ≡ true → Over d (insert n w m) τ ls (mark n f σ))
        → Over d (insert n w m) τ (v ∷ ls) (cond c (local s (f a) ∷ in_frame n d f σ) (local s a ∷ mark n f σ))
    split true q y r = above {v = v} {a = f a} (rw q (ap some (sym (h a (subst (λ (k : ℕ). m k ≡ some a) (same v.name n q) e))))) (over-some n f w t h o)
    split false q y r = above {v = v} {a = a} (rw q e) (r y)

-- a mark outside the frame
over-past : {d : ℕ} {m : States} {τ : Stack State} {ls : List Var} {σ : Stack State} (n : ℕ) (f : State → State) → named n ls ≡ false
    → Over d m τ ls σ → Over d m (mark n f τ) ls (mark n f σ)
over-past n f z bottom = bottom
over-past {d} {m} {τ} n f z (above {v} {a} {ls} {σ} e o) = split (eqb v.name n) z (λ y. over-past n f y o)
  where
    s : Static
    s = at_depth d v

    split : (c : Bool) → (c || named n ls) ≡ false → (named n ls ≡ false → Over d m (mark n f τ) ls (mark n f σ))
        → Over d m (mark n f τ) (v ∷ ls) (cond c (local s (f a) ∷ in_frame n d f σ) (local s a ∷ mark n f σ))
    split true y r = absurd (subst So y tt)
    split false y r = above e (r y)

-- the names of a map after an insert
names-insert : (n k : ℕ) (w : State) (m : States) (ls : List Var) → is_some (m n) ≡ true → ((j : ℕ) → is_some (m j) ≡ named j ls)
    → is_some (insert n w m k) ≡ named k ls
names-insert n k w m ls z q = split (eqb k n) refl
  where
    split : (c : Bool) → eqb k n ≡ c → is_some (cond c (some w) (m k)) ≡ named k ls
    split true e = sym z ∙ (ap (λ (j : ℕ). is_some (m j)) (sym (same k n e)) ∙ q k)
    split false e = q k

-- Marks: f on what the flat stack says, w inserted, if f gives w of the state that the frames find
pub agree-mark : {k : ℕ} {fs : Frames} {σ : Stack State} (n : ℕ) (f : State → State) (w : State) → ((a : State) → find_state n fs ≡ some a → f a ≡ w)
    → Agree k fs σ → Agree k (mark_as n w fs) (mark n f σ)
agree-mark n f w h nothing = nothing
agree-mark n f w h (framed {d} {m} {ls} {fs} {τ} {σ} g o q) = split (m n) refl (λ y. agree-mark n f w y g)
  where
    split : (x : Option State) → m n ≡ x → (((a : State) → find_state n fs ≡ some a → f a ≡ w) → Agree d (mark_as n w fs) (mark n f τ))
        → Agree (suc d) (cond (is_some (m n)) (frame ls (insert n w m) ∷ fs) (frame ls m ∷ mark_as n w fs)) (mark n f σ)
    split (some b) e r =
        subst (λ (c : Bool). Agree (suc d) (cond c (frame ls (insert n w m) ∷ fs) (frame ls m ∷ mark_as n w fs)) (mark n f σ)) (sym (ap is_some e))
        (framed g
        (over-mark n f w (free d (omega arith) g) (λ a y. h a (ap (λ (x : Option State). or_else x (find_state n fs)) y)) (sym (q n) ∙ ap is_some e) o)
        (λ k. names-insert n k w m ls (ap is_some e) q))
    split none e r =
        subst (λ (c : Bool). Agree (suc d) (cond c (frame ls (insert n w m) ∷ fs) (frame ls m ∷ mark_as n w fs)) (mark n f σ)) (sym (ap is_some e))
        (framed (r λ a y. h a (ap (λ (x : Option State). or_else x (find_state n fs)) e ∙ y)) (over-past n f (sym (q n) ∙ ap is_some e) o) q)

-- mark_deleted, mark_moved, mark_consumed
pub agree-deleted : {k : ℕ} {fs : Frames} {σ : Stack State} (n p : ℕ) → Agree k fs σ → Agree k (mark_deleted n p fs) (apply (states off) (kill deleted n p) σ)
agree-deleted n p g = agree-mark n _ _ (λ a y. refl) g

pub agree-moved : {k : ℕ} {fs : Frames} {σ : Stack State} (n p : ℕ) → Agree k fs σ → Agree k (mark_moved n p fs) (apply (states off) (kill moved n p) σ)
agree-moved n p g = agree-mark n _ _ (λ a y. refl) g

pub agree-consumed : {k : ℕ} {fs : Frames} {σ : Stack State} (n p : ℕ) → Agree k fs σ → Agree k (mark_consumed n p fs) (apply (states off) (kill consumed n p) σ)
agree-consumed n p g = agree-mark n _ _ (λ a y. refl) g

-- register_local
pub agree-register : {d : ℕ} {fs : Frames} {σ : Stack State} (v : Var) → Agree (suc d) fs σ → Agree (suc d) (register_local v fs) (register (states off) (at_depth d v) σ)
agree-register v (framed {d} {m} {ls} g o q) =
    let n = v.name in
    framed g (above {v = v} {a = alive} (ap (λ (c : Bool). cond c (some alive) (m n)) (eqb-self n)) (over-some n (λ a. alive) alive (free d (omega arith) g) (λ a y. refl) o)) names
  where
    names : (k : ℕ) → is_some (insert v.name alive m k) ≡ (eqb v.name k || named k ls)
    names k = rw (eqb_comm v.name k) (split (eqb k v.name))
      where
        split : (c : Bool) → is_some (cond c (some alive) (m k)) ≡ (c || named k ls)
        split true = refl
        split false = q k

-- scope_stack.push
pub agree-push : {k : ℕ} {fs : Frames} {σ : Stack State} → Agree k fs σ → Agree (suc k) (push fs) σ
agree-push g = framed g bottom (λ n. refl)

-- scope_stack.pop
over-pop : {d : ℕ} {m : States} {τ : Stack State} {ls : List Var} {σ : Stack State} → Free d τ → Over d m τ ls σ → pop d σ ≡ τ
over-pop {d} {m} {τ} t bottom = free-pop d τ t
over-pop {d} {m} {τ} t (above {v} {a} {ls} {σ} e o) =
    ap (λ (b : Bool). cond b (pop d σ) (local (at_depth d v) a ∷ pop d σ)) (eqb-self d) ∙ over-pop t o

pub agree-pop : {d : ℕ} {fs : Frames} {σ : Stack State} → Agree (suc d) fs σ → Agree d (pop_frame fs) (pop d σ)
agree-pop (framed {d} {m} {ls} {fs} g o q) = subst (λ (ρ : Stack State). Agree d fs ρ) (sym (over-pop (free d (omega arith) g) o)) g

-- a mark that inserts the state that is there
insert-same : (n : ℕ) (w : State) (m : States) → m n ≡ some w → insert n w m ≡ m
insert-same n w m e i k = point k i
  where
    split : (k : ℕ) (c : Bool) → eqb k n ≡ c → cond c (some w) (m k) ≡ m k
    split k true q = sym (subst (λ (j : ℕ). m j ≡ some w) (sym (same k n q)) e)
    split k false q = refl

    point : (k : ℕ) → insert n w m k ≡ m k
    point k = split k (eqb k n) refl

mark-idle : (n : ℕ) (w : State) (fs : Frames) → ((b : State) → find_state n fs ≡ some b → b ≡ w) → mark_as n w fs ≡ fs
mark-idle n w [] h = refl
mark-idle n w (frame ls m ∷ fs) h = split (m n) refl (mark-idle n w fs)
  where
    split : (x : Option State) → m n ≡ x → (((b : State) → find_state n fs ≡ some b → b ≡ w) → mark_as n w fs ≡ fs)
        → cond (is_some (m n)) (frame ls (insert n w m) ∷ fs) (frame ls m ∷ mark_as n w fs) ≡ frame ls m ∷ fs
    split (some b) e r =
        let z : b ≡ w = h b (ap (λ (x : Option State). or_else x (find_state n fs)) e) in
        ap (λ (c : Bool). cond c (frame ls (insert n w m) ∷ fs) (frame ls m ∷ mark_as n w fs)) (ap is_some e)
        ∙ ap (λ (m' : States). frame ls m' ∷ fs) (insert-same n w m (e ∙ ap some z))
    split none e r =
        ap (λ (c : Bool). cond c (frame ls (insert n w m) ∷ fs) (frame ls m ∷ mark_as n w fs)) (ap is_some e)
        ∙ ap (λ (gs : Frames). frame ls m ∷ gs) (r λ b y. h b (ap (λ (x : Option State). or_else x (find_state n fs)) e ∙ y))

-- mark_compiler_temp_consumed
pub agree-hand : {k : ℕ} {fs : Frames} {σ : Stack State} (n p : ℕ) → Agree k fs σ → Agree k (hand_temp n p fs) (mark n (hand_state p) σ)
agree-hand {k} {fs} {σ} n p g = split (find_state n fs) refl
  where
    unsome : (a b : State) → some a ≡ some b → a ≡ b
    unsome a b e = cc

    kept : (w : State) → ((b : State) → find_state n fs ≡ some b → b ≡ w) → hand_state p w ≡ w → Agree k fs (mark n (hand_state p) σ)
    kept w h e = subst (λ (gs : Frames). Agree k gs (mark n (hand_state p) σ)) (mark-idle n w fs h) (agree-mark n (hand_state p) w (λ a y. ap (hand_state p) (h a y) ∙ e) g)

    split : (x : Option State) → find_state n fs ≡ x → Agree k (move_if (is_live x) n p fs) (mark n (hand_state p) σ)
    split (some alive) e = agree-mark n (hand_state p) (gone false moved (p ∷ [])) (λ a y. ap (hand_state p) (unsome a alive (sym y ∙ e))) g
    split (some (gone c j ps)) e = kept (gone c j ps) (λ b y. unsome b (gone c j ps) (sym y ∙ e)) refl
    split none e = kept (gone false moved []) (λ b y. let z : some b ≡ none = sym y ∙ e in cc) refl

-- the frames say what the flat stack is
over-unique : {d : ℕ} {m : States} {τ τ' : Stack State} {ls : List Var} {σ σ' : Stack State} → τ ≡ τ' → Over d m τ ls σ → Over d m τ' ls σ' → σ ≡ σ'
over-unique q bottom bottom = q
over-unique {d} q (above {v} {a} {ls} {σ} e o) (above {a = a'} {σ = σ'} e' o') =
    let z : a ≡ a' = cc in let r : σ ≡ σ' = over-unique q o o' in
    λ i. local (at_depth d v) (z i) ∷ r i

pub agree-unique : {k : ℕ} {fs : Frames} {σ σ' : Stack State} → Agree k fs σ → Agree k fs σ' → σ ≡ σ'
agree-unique nothing nothing = refl
agree-unique (framed g o q) (framed g' o' q') = over-unique (agree-unique g g') o o'

-- so f local by local is f of the state that is found
pub mark-found : {k : ℕ} {fs : Frames} {σ : Stack State} (n : ℕ) (f : State → State) (a : State) → Agree k fs σ → find_state n fs ≡ some a → mark n f σ ≡ mark n (λ b. f a) σ
mark-found {fs = fs} n f a g e =
    agree-unique (agree-mark n f (f a) (λ b y. let z : b ≡ a = cc in ap f z) g) (agree-mark n (λ b. f a) (f a) (λ b y. refl) g)

-- how many frames
pub agree-length : {k : ℕ} {fs : Frames} {σ : Stack State} → Agree k fs σ → length fs ≡ k
agree-length nothing = refl
agree-length (framed g o q) = ap suc (agree-length g)

-- the locals in order
over-shape : {d : ℕ} {m : States} {τ : Stack State} {ls : List Var} {σ : Stack State} → Over d m τ ls σ → shape σ ≡ numbered d ls (shape τ)
over-shape bottom = refl
over-shape {d} (above {v} e o) = ap (λ (Γ : Shape). at_depth d v ∷ Γ) (over-shape o)

pub agree-shape : {k : ℕ} {fs : Frames} {σ : Stack State} → Agree k fs σ → shape σ ≡ shape_of fs
agree-shape nothing = refl
agree-shape (framed {d} {m} {ls} {fs} g o q) = over-shape o ∙ (λ i. numbered (sym (agree-length g) i) ls (agree-shape g i))

-- what find_local and find_state give
abbrev pub var_of : Option (Local State) → Option Var
var_of none = none
var_of (some (local s a)) = some (record { name = s.name; ty = s.ty; born = s.born })

abbrev pub state_of : Option (Local State) → Option State
state_of none = none
state_of (some (local s a)) = some a

over-local : {d : ℕ} {m : States} {τ : Stack State} {ls : List Var} {σ : Stack State} (n : ℕ) → Over d m τ ls σ
    → or_else (newest n ls) (var_of (lookup n τ)) ≡ var_of (lookup n σ)
over-local n bottom = refl
over-local {d} {τ = τ} n (above {v} {a} {ls} {σ} e o) = split (eqb v.name n) (over-local n o)
  where
    split : (c : Bool) → or_else (newest n ls) (var_of (lookup n τ)) ≡ var_of (lookup n σ)
        → or_else (cond c (some v) (newest n ls)) (var_of (lookup n τ)) ≡ var_of (cond c (some (local (at_depth d v) a)) (lookup n σ))
    split true r = refl
    split false r = r

-- find_local
pub agree-local : {k : ℕ} {fs : Frames} {σ : Stack State} (n : ℕ) → Agree k fs σ → find_local n fs ≡ var_of (lookup n σ)
agree-local n nothing = refl
agree-local n (framed {ls = ls} g o q) = ap (or_else (newest n ls)) (agree-local n g) ∙ over-local n o

over-state : {d : ℕ} {m : States} {τ : Stack State} {ls : List Var} {σ : Stack State} (n : ℕ) → Over d m τ ls σ
    → cond (named n ls) (m n) (state_of (lookup n τ)) ≡ state_of (lookup n σ)
over-state n bottom = refl
over-state {d} {m} {τ} n (above {v} {a} {ls} {σ} e o) = split (eqb v.name n) refl (over-state n o)
  where
    split : (c : Bool) → eqb v.name n ≡ c → cond (named n ls) (m n) (state_of (lookup n τ)) ≡ state_of (lookup n σ)
        → cond (c || named n ls) (m n) (state_of (lookup n τ)) ≡ state_of (cond c (some (local (at_depth d v) a)) (lookup n σ))
    split true q r = subst (λ (k : ℕ). m k ≡ some a) (same v.name n q) e
    split false q r = r

or-else : {A : Type 0} (x y : Option A) → or_else x y ≡ cond (is_some x) x y
or-else none y = refl
or-else (some x) y = refl

-- find_state
pub agree-state : {k : ℕ} {fs : Frames} {σ : Stack State} (n : ℕ) → Agree k fs σ → find_state n fs ≡ state_of (lookup n σ)
agree-state n nothing = refl
agree-state n (framed {m = m} {ls = ls} {fs = fs} {τ = τ} g o q) =
    ap (or_else (m n)) (agree-state n g)
    ∙ (or-else (m n) (state_of (lookup n τ)) ∙ (ap (λ (b : Bool). cond b (m n) (state_of (lookup n τ))) (q n) ∙ over-state n o))

-- so a hand-over that asks the newest local's state is the one that goes local by local
pub hand-newest : {k : ℕ} {fs : Frames} {σ : Stack State} (n p : ℕ) (s : Static) (a : State) → Agree k fs σ → lookup n σ ≡ some (local s a)
    → mark n (hand_state p) σ ≡ mark n (λ b. hand_state p a) σ
hand-newest n p s a g e = mark-found n (hand_state p) a g (agree-state n g ∙ ap state_of e)

-- a local of a flat stack, with what it says of it
pub data Says (s : Static) (a : State) : Stack State → Type 0 where
  newest' : {σ : Stack State} → Says s a (local s a ∷ σ)
  older : {l : Local State} {σ : Stack State} → Says s a σ → Says s a (l ∷ σ)

free-says : (d : ℕ) {s : Static} {a : State} {σ : Stack State} → Free d σ → Says s a σ → eqb s.depth d ≡ false
free-says d {σ = []} f i = elim i [ ]
free-says d {σ = local t b ∷ σ} f newest' = f.0
free-says d {σ = local t b ∷ σ} f (older i) = free-says d f.1 i

over-says : {d : ℕ} {m : States} {τ : Stack State} {ls : List Var} {σ : Stack State} {s : Static} {a : State} → Over d m τ ls σ → Says s a σ
    → ((s.depth ≡ d) × (m s.name ≡ some a)) ⊎ Says s a τ
over-says bottom i = inr i
over-says (above e o) newest' = inl (refl, e)
over-says (above e o) (older i) = over-says o i

-- every local has the state that the map of its depth's frame gives for its name
pub agree-says : {k : ℕ} {fs : Frames} {σ : Stack State} {s : Static} {a : State} → Agree k fs σ → Says s a σ → get_in (frame_at s.depth fs) s.name ≡ some a
agree-says nothing i = elim i [ ]
agree-says (framed {d} {m} {ls} {fs} {τ} {σ} g o q) i = split g (over-says o i) (agree-says g)
  where
    split : {s : Static} {a : State} → Agree d fs τ → ((s.depth ≡ d) × (m s.name ≡ some a)) ⊎ Says s a τ
        → (Says s a τ → get_in (frame_at s.depth fs) s.name ≡ some a)
        → get_in (cond (eqb (length fs) s.depth) (some (frame ls m)) (frame_at s.depth fs)) s.name ≡ some a
    split {s} {a} g (inl h) r =
        let e : eqb (length fs) s.depth ≡ true = ap (λ (j : ℕ). eqb (length fs) j) (h.0 ∙ sym (agree-length g)) ∙ eqb-self (length fs) in
        ap (λ (c : Bool). get_in (cond c (some (frame ls m)) (frame_at s.depth fs)) s.name) e ∙ h.1
    split {s} {a} g (inr i) r =
        let e : eqb (length fs) s.depth ≡ false =
        eqb_comm (length fs) s.depth ∙ (ap (λ (j : ℕ). eqb s.depth j) (agree-length g) ∙ free-says d (free d (omega arith) g) i) in
        ap (λ (c : Bool). get_in (cond c (some (frame ls m)) (frame_at s.depth fs)) s.name) e ∙ r i

-- all locals of one name and depth have one state
pub one_state : {k : ℕ} {fs : Frames} {σ : Stack State} {s t : Static} {a b : State} → Agree k fs σ → Says s a σ → Says t b σ
    → s.name ≡ t.name → s.depth ≡ t.depth → a ≡ b
one_state {fs = fs} {s = s} {t = t} {a = a} {b = b} g i j p q =
    let x : get_in (frame_at s.depth fs) s.name ≡ some a = agree-says g i in
    let y : get_in (frame_at t.depth fs) t.name ≡ some b = agree-says g j in
    let z : some a ≡ some b = sym x ∙ ((λ i. get_in (frame_at (q i) fs) (p i)) ∙ y) in cc

module _ (T : Tables) where
  over-gather : {B : Type 0} {d : ℕ} {m : States} {τ : Stack State} {ls : List Var} {σ : Stack State} (q : Static → Bool) (r : ℕ → Bool) (f : Static → B) (h : Var → B)
      → ((v : Var) → r v.name ≡ q (at_depth d v)) → ((v : Var) → h v ≡ f (at_depth d v)) → Over d m τ ls σ
      → frame_gather T r h m ls ++ gather (states off) T q f τ ≡ gather (states off) T q f σ
  over-gather q r f h e₁ e₂ bottom = refl
  over-gather {B} {d} {m} {τ} q r f h e₁ e₂ (above {v} {a} {ls} {σ} e o) =
      let s : Static = at_depth d v in
      (λ i. cond (e₁ v i && is_live (e i) && auto T v.ty) (e₂ v i ∷ frame_gather T r h m ls) (frame_gather T r h m ls) ++ gather (states off) T q f τ)
      ∙ split (q s && is_alive a && auto T v.ty) (over-gather q r f h e₁ e₂ o)
    where
      split : (c : Bool) → frame_gather T r h m ls ++ gather (states off) T q f τ ≡ gather (states off) T q f σ
          → cond c (f (at_depth d v) ∷ frame_gather T r h m ls) (frame_gather T r h m ls) ++ gather (states off) T q f τ
          ≡ cond c (f (at_depth d v) ∷ gather (states off) T q f σ) (gather (states off) T q f σ)
      split true x = ap (λ (bs : List B). f (at_depth d v) ∷ bs) x
      split false x = x

  -- every frame
  agree-scope : {B : Type 0} {k : ℕ} {fs : Frames} {σ : Stack State} (q : Static → Bool) (r : ℕ → Bool) (f : Static → B) (h : Var → B)
      → ((d : ℕ) (v : Var) → r v.name ≡ q (at_depth d v)) → ((d : ℕ) (v : Var) → h v ≡ f (at_depth d v)) → Agree k fs σ
      → scope_gather T r h fs ≡ gather (states off) T q f σ
  agree-scope q r f h e₁ e₂ nothing = refl
  agree-scope {B} q r f h e₁ e₂ (framed {d} {m} {ls} g o p) =
      ap (λ (bs : List B). frame_gather T r h m ls ++ bs) (agree-scope q r f h e₁ e₂ g) ∙ over-gather q r f h (e₁ d) (e₂ d) o

  -- collect_scope_drops
  pub agree-return : {k : ℕ} {fs : Frames} {σ : Stack State} (n : Named) → Agree k fs σ → scope_drops T n fs ≡ return_drops (states off) T (concerns off) n σ
  agree-return n g = agree-scope (λ s. concerns off (at_return n) s) (λ k. not (excludes n k)) (λ s. drop_of 0 s.name s.ty) (delete_of T 0) (λ d v. refl) (λ d v. refl) g

  none_in : {B : Type 0} (f : Var → B) (m : States) (ls : List Var) → frame_gather T (λ k. false) f m ls ≡ []
  none_in f m [] = refl
  none_in f m (v ∷ ls) = none_in f m ls

  -- frames outside the loop's body
  outside-loop : {B : Type 0} (f : Static → B) (h : Var → B) → ((d : ℕ) (v : Var) → h v ≡ f (at_depth d v))
      → {k : ℕ} {fs : Frames} {σ : Stack State} (l : ℕ) → k ≤ l → Agree k fs σ → gather (states off) T (λ s. concerns on (at_jump (some l)) s) f σ ≡ []
  outside-loop f h e₂ l b nothing = refl
  outside-loop {B} f h e₂ l b (framed {d} {m} {ls} {fs} {τ} g o q) =
      let e : leb l d ≡ false = no≡ (leb l d) (λ t. let z : l ≤ d = leb→le l d t in omega arith) in
      sym (over-gather (λ s. concerns on (at_jump (some l)) s) (λ k. false) f h (λ v. sym e) (e₂ d) o)
      ∙ (ap (λ (bs : List B). bs ++ gather (states off) T (λ s. concerns on (at_jump (some l)) s) f τ) (none_in h m ls) ∙ outside-loop f h e₂ l (omega arith) g)

  -- what a Break or Continue leaves behind
  agree-loop : {B : Type 0} (f : Static → B) (h : Var → B) → ((d : ℕ) (v : Var) → h v ≡ f (at_depth d v))
      → {k : ℕ} {fs : Frames} {σ : Stack State} (l : Option ℕ) → Agree k fs σ → loop_gather T l h fs ≡ gather (states off) T (λ s. concerns on (at_jump l) s) f σ
  agree-loop f h e₂ {σ = σ} none g = sym (gather_none (states off) T f σ)
  agree-loop f h e₂ (some l) nothing = refl
  agree-loop {B} f h e₂ (some l) (framed {d} {m} {ls} {fs} {τ} {σ} g o q) =
      ap (λ (j : ℕ). cond (leb l j) (frame_gather T (λ k. true) h m ls ++ loop_gather T (some l) h fs) []) (agree-length g)
      ∙ split (leb l d) refl (agree-loop f h e₂ (some l) g)
    where
      split : (c : Bool) → leb l d ≡ c → loop_gather T (some l) h fs ≡ gather (states off) T (λ s. concerns on (at_jump (some l)) s) f τ
          → cond c (frame_gather T (λ k. true) h m ls ++ loop_gather T (some l) h fs) [] ≡ gather (states off) T (λ s. concerns on (at_jump (some l)) s) f σ
      split true e r =
          ap (λ (bs : List B). frame_gather T (λ k. true) h m ls ++ bs) r ∙ over-gather (λ s. concerns on (at_jump (some l)) s) (λ k. true) f h (λ v. sym e) (e₂ d) o
      split false e r = sym (outside-loop f h e₂ l (le-cases l d (of-false (leb l d) e)) (framed g o q))

  -- what a return without a value, and what a Break or Continue leaves behind
  pub agree_left : {k : ℕ} {fs : Frames} {σ : Stack State} (p : ℕ) → Agree k fs σ → scope_gather T (λ k. true) (λ v. left p v.name v.born) fs ≡ left_behind T false p at_bare_return σ
  agree_left p g = agree-scope (λ s. concerns on at_bare_return s) (λ k. true) (λ s. left p s.name s.born) (λ v. left p v.name v.born) (λ d v. refl) (λ d v. refl) g

  pub agree-jump : {k : ℕ} {fs : Frames} {σ : Stack State} (p : ℕ) (l : Option ℕ) → Agree k fs σ → loop_gather T l (λ v. left p v.name v.born) fs ≡ left_behind T false p (at_jump l) σ
  agree-jump p l g = agree-loop (λ s. left p s.name s.born) (λ v. left p v.name v.born) (λ d v. refl) l g

  free-drops : (d p : ℕ) (σ : Stack State) → Free d σ → end_drops (states off) T (concerns off) d p σ ≡ []
  free-drops d p [] t = refl
  free-drops d p (local s a ∷ σ) t =
      ap (λ (b : Bool). cond (b && is_alive a && auto T s.ty) (drop_of p s.name s.ty ∷ end_drops (states off) T (concerns off) d p σ) (end_drops (states off) T (concerns off) d p σ)) t.0
      ∙ free-drops d p σ t.1

  -- transform_block's tail_drops
  pub agree-tail : {d : ℕ} {fs : Frames} {σ : Stack State} (p : ℕ) → Agree (suc d) fs σ → last_drops T p fs ≡ end_drops (states off) T (concerns off) d p σ
  agree-tail p (framed {d} {m} {ls} {fs} {τ} g o q) =
      sym (append-nil (frame_gather T (λ k. true) (delete_of T p) m ls))
      ∙ (ap (λ (ds : List Drop). frame_gather T (λ k. true) (delete_of T p) m ls ++ ds) (sym (free-drops d p τ (free d (omega arith) g)))
      ∙ over-gather (λ s. eqb s.depth d) (λ k. true) (λ s. drop_of p s.name s.ty) (delete_of T p) (λ v. sym (eqb-self d)) (λ v. refl) o)

  both-tests : {A : Type 0} (a b : Bool) (x y : A) → cond b (cond a x y) y ≡ cond (a && b) x y
  both-tests true b x y = refl
  both-tests false true x y = refl
  both-tests false false x y = refl

  abbrev named-drop : ℕ → ℕ → Option (Local State) → List Drop
  named-drop p n o = drop_newest (states off) T (λ s. eqb s.name n) p n o

  over-pre : {d : ℕ} {m : States} {τ : Stack State} {ls : List Var} {σ : Stack State} (p n : ℕ) → Over d m τ ls σ
      → pre_drop T p n (m n) (newest n ls) (named-drop p n (lookup n τ)) ≡ named-drop p n (lookup n σ)
  over-pre p n bottom = refl
  over-pre {d} {m} {τ} p n (above {v} {a} {ls} {σ} e o) = split (eqb v.name n) refl (over-pre p n o)
    where
      split : (c : Bool) → eqb v.name n ≡ c
          → pre_drop T p n (m n) (newest n ls) (named-drop p n (lookup n τ)) ≡ named-drop p n (lookup n σ)
          → pre_drop T p n (m n) (cond c (some v) (newest n ls)) (named-drop p n (lookup n τ))
          ≡ named-drop p n (cond c (some (local (at_depth d v) a)) (lookup n σ))
      split true q r =
          ap (λ (x : Option State). cond (auto T v.ty) (cond (is_live x) (drop_of p n v.ty ∷ []) []) []) (subst (λ (k : ℕ). m k ≡ some a) (same v.name n q) e)
          ∙ (both-tests (is_alive a) (auto T v.ty) (drop_of p n v.ty ∷ []) []
          ∙ ap (λ (b : Bool). cond (b && is_alive a && auto T v.ty) (drop_of p n v.ty ∷ []) []) (sym q))
      split false q r = r

  agree-pre : {k : ℕ} {fs : Frames} {σ : Stack State} (p n : ℕ) → Agree k fs σ → pre_delete_name T p n fs ≡ named-drop p n (lookup n σ)
  agree-pre p n nothing = refl
  agree-pre p n (framed {m = m} {ls = ls} g o q) = ap (pre_drop T p n (m n) (newest n ls)) (agree-pre p n g) ∙ over-pre p n o

  agree-named : {k : ℕ} {fs : Frames} {σ : Stack State} (p : ℕ) (n : Named) → Agree k fs σ → pre_delete_named T p n fs ≡ drop_named (states off) T (λ s. excludes n s.name) p n σ
  agree-named p nobody g = refl
  agree-named p (called n s) g = agree-pre p n g

  -- pre_delete_before_assign
  pub agree_assign : {k : ℕ} {fs : Frames} {σ : Stack State} (p : ℕ) (dst : Expr) → Agree k fs σ → pre_delete T p dst fs ≡ assign_drops (states off) T (concerns off) p dst σ
  agree_assign p dst g = agree-named p (ident_in (view dst)) g

-- the locals of each frame
abbrev pub layout : Frames → List (List Var)
layout [] = []
layout (frame ls m ∷ fs) = ls ∷ layout fs

-- two stacks of frames with the same locals
data Same : Frames → Frames → Type 0 where
  neither : Same [] []
  both : {ls : List Var} {m m' : States} {fs gs : Frames} → Same fs gs → Same (frame ls m ∷ fs) (frame ls m' ∷ gs)

same_layout : (fs gs : Frames) → layout fs ≡ layout gs → Same fs gs
same_layout [] [] e = neither
same_layout [] (frame ls m ∷ gs) e = let z : ◌≡◌ {A = ℕ} 0 1 = cc in absurd (omega arith)
same_layout (frame ls m ∷ fs) [] e = let z : ◌≡◌ {A = ℕ} 0 1 = cc in absurd (omega arith)
same_layout (frame ls m ∷ fs) (frame ls' m' ∷ gs) e =
    let p : ls ≡ ls' = cc in let q : layout fs ≡ layout gs = cc in
    subst (λ (l : List Var). Same (frame ls m ∷ fs) (frame l m' ∷ gs)) p (both (same_layout fs gs q))

frame_below : (i : ℕ) (f : Frame) (fs : Frames) → i < length fs → frame_at i (f ∷ fs) ≡ frame_at i fs
frame_below i f fs h =
    ap (λ (c : Bool). cond c (some f) (frame_at i fs)) (no≡ (eqb (length fs) i) (λ u. let q : length fs ≡ i = eqb→eq (length fs) i u in omega arith))

frame-last : (i : ℕ) (f : Frame) (fs : Frames) → length fs ≡ i → frame_at i (f ∷ fs) ≡ some f
frame-last i f fs h = ap (λ (c : Bool). cond c (some f) (frame_at i fs)) (ap (λ (j : ℕ). eqb j i) h ∙ eqb-self i)

module _ (f g : Bool) where
  merge-cong : (bs ts ts' : Frames) (es es' : Option Frames) → ((i : ℕ) → i < length bs → frame_at i ts ≡ frame_at i ts')
      → ((i : ℕ) → i < length bs → else_at i es ≡ else_at i es') → merge_frames f g bs ts es ≡ merge_frames f g bs ts' es'
  merge-cong [] ts ts' es es' h k = refl
  merge-cong (b ∷ bs) ts ts' es es' h k =
      let r : merge_frames f g bs ts es ≡ merge_frames f g bs ts' es' = merge-cong bs ts ts' es es' (λ i l. h i (omega arith)) (λ i l. k i (omega arith)) in
      let x : frame_at (length bs) ts ≡ frame_at (length bs) ts' = h (length bs) (omega arith) in
      let y : else_at (length bs) es ≡ else_at (length bs) es' = k (length bs) (omega arith) in
      λ i. merge_frame f g b (x i) (y i) ∷ r i

  -- the innermost frames, then the others
  merge-some : (ls ls' ls'' : List Var) (m m' m'' : States) (bs ts es : Frames) → length ts ≡ length bs → length es ≡ length bs
      → merge_frames f g (frame ls m ∷ bs) (frame ls' m' ∷ ts) (some (frame ls'' m'' ∷ es)) ≡ frame ls (λ n. merge_name f g (m n) (m' n) (m'' n)) ∷ merge_frames f g bs ts (some es)
  merge-some ls ls' ls'' m m' m'' bs ts es p q =
      let r : merge_frames f g bs (frame ls' m' ∷ ts) (some (frame ls'' m'' ∷ es)) ≡ merge_frames f g bs ts (some es) =
      merge-cong bs (frame ls' m' ∷ ts) ts (some (frame ls'' m'' ∷ es)) (some es)
      (λ i l. frame_below i (frame ls' m') ts (omega arith)) (λ i l. frame_below i (frame ls'' m'') es (omega arith)) in
      λ i. merge_frame f g (frame ls m) (frame-last (length bs) (frame ls' m') ts p i) (frame-last (length bs) (frame ls'' m'') es q i) ∷ r i

  merge_none : (ls ls' : List Var) (m m' : States) (bs ts : Frames) → length ts ≡ length bs
      → merge_frames f g (frame ls m ∷ bs) (frame ls' m' ∷ ts) none ≡ frame ls (λ n. merge_name f g (m n) (m' n) none) ∷ merge_frames f g bs ts none
  merge_none ls ls' m m' bs ts p =
      let r : merge_frames f g bs (frame ls' m' ∷ ts) none ≡ merge_frames f g bs ts none =
      merge-cong bs (frame ls' m' ∷ ts) ts none none (λ i l. frame_below i (frame ls' m') ts (omega arith)) (λ i l. refl) in
      λ i. merge_frame f g (frame ls m) (frame-last (length bs) (frame ls' m') ts p i) none ∷ r i

  -- no else is an else that does nothing
  no-else : (x y : Option State) → merge_name f g x y none ≡ merge_name f g x y x
  no-else none y = refl
  no-else (some a) y = refl

  same_length : {fs gs : Frames} → Same fs gs → length gs ≡ length fs
  same_length neither = refl
  same_length (both s) = ap suc (same_length s)

  merge-else : {bs ts : Frames} → Same bs ts → merge_frames f g bs ts none ≡ merge_frames f g bs ts (some bs)
  merge-else neither = refl
  merge-else (both {ls} {m} {m'} {fs = bs} {gs = ts} s) =
      let r : merge_frames f g bs ts none ≡ merge_frames f g bs ts (some bs) = merge-else s in
      merge_none ls ls m m' bs ts (same_length s)
      ∙ ((λ i. frame ls (λ n. no-else (m n) (m' n) i) ∷ r i) ∙ sym (merge-some ls ls ls m m' m bs ts bs (same_length s) refl))

  name-merge : (x y z : Option State) (a b c : State) → x ≡ some a → y ≡ some b → z ≡ some c → merge_name f g x y z ≡ some (merge_state f g a b c)
  name-merge x y z a b c p q r i = merge_name f g (p i) (q i) (r i)

  names-merge : (x y z : Option State) → is_some (merge_name f g x y z) ≡ is_some x
  names-merge none y z = refl
  names-merge (some a) y z = refl

over-merge : {d : ℕ} {m m' m'' : States} {σ₀ τ₀ υ₀ : Stack State} {ls : List Var} {σ τ υ : Stack State} (f g : Bool)
    → Over d m σ₀ ls σ → Over d m' τ₀ ls τ → Over d m'' υ₀ ls υ
    → Over d (λ n. merge_name f g (m n) (m' n) (m'' n)) (merge (states off) f g σ₀ τ₀ υ₀) ls (merge (states off) f g σ τ υ)
over-merge f g bottom bottom bottom = bottom
over-merge true true (above p o) (above q o') (above r o'') = above (name-merge true true _ _ _ _ _ _ p q r) (over-merge true true o o' o'')
over-merge true false (above p o) (above q o') (above r o'') = above (name-merge true false _ _ _ _ _ _ p q r) (over-merge true false o o' o'')
over-merge false true (above p o) (above q o') (above r o'') = above (name-merge false true _ _ _ _ _ _ p q r) (over-merge false true o o' o'')
over-merge false false (above p o) (above q o') (above r o'') = above (name-merge false false _ _ _ _ _ _ p q r) (over-merge false false o o' o'')

merge-empty : (f g : Bool) → Agree 0 [] (merge (states off) f g [] [] [])
merge-empty true true = nothing
merge-empty true false = nothing
merge-empty false true = nothing
merge-empty false false = nothing

merge-same : {k : ℕ} {bs ts es : Frames} {σ τ υ : Stack State} (f g : Bool) → Same bs ts → Same bs es → Agree k bs σ → Agree k ts τ → Agree k es υ
    → Agree k (merge_frames f g bs ts (some es)) (merge (states off) f g σ τ υ)
merge-same f g neither neither nothing nothing nothing = merge-empty f g
merge-same {k} {σ = σ} {τ = τ} {υ = υ} f g (both {ls} {m} {m'} {fs = bs} {gs = ts} s) (both {m' = m''} {gs = es} s') (framed x o q) (framed x' o' q') (framed x'' o'' q'') =
    subst (λ (fs : Frames). Agree k fs (merge (states off) f g σ τ υ)) (sym (merge-some f g ls ls ls m m' m'' bs ts es (same_length f g s) (same_length f g s')))
    (framed (merge-same f g s s' x x' x'') (over-merge f g o o' o'') (λ n. names-merge f g (m n) (m' n) (m'' n) ∙ q n))

-- merge_control_flow_states, with an else and without
pub agree-merge : {k : ℕ} {bs ts es : Frames} {σ τ υ : Stack State} (f g : Bool) → layout bs ≡ layout ts → layout bs ≡ layout es
    → Agree k bs σ → Agree k ts τ → Agree k es υ → Agree k (merge_frames f g bs ts (some es)) (merge (states off) f g σ τ υ)
agree-merge {bs = bs} {ts = ts} {es = es} f g p q x y z = merge-same f g (same_layout bs ts p) (same_layout bs es q) x y z

pub agree-merge-then : {k : ℕ} {bs ts : Frames} {σ τ : Stack State} (f g : Bool) → layout bs ≡ layout ts
    → Agree k bs σ → Agree k ts τ → Agree k (merge_frames f g bs ts none) (merge (states off) f g σ τ σ)
agree-merge-then {k} {bs} {ts} {σ} {τ} f g p x y =
    subst (λ (fs : Frames). Agree k fs (merge (states off) f g σ τ σ)) (sym (merge-else f g (same_layout bs ts p))) (agree-merge f g p refl x y x)

-- an effect, effects, and what an expression does
pub agree-apply : {k : ℕ} {fs : Frames} {σ : Stack State} (e : Effect) → Agree k fs σ → Agree k (apply_frames e fs) (apply (states off) e σ)
agree-apply (use' n s) g = g
agree-apply (kill deleted n s) g = agree-deleted n s g
agree-apply (kill moved n s) g = agree-moved n s g
agree-apply (kill consumed n s) g = agree-consumed n s g
agree-apply (hand n s) g = agree-hand n s g
agree-apply (bad_move s h) g = g
agree-apply (global_move s x) g = g

pub agree-all : (es : List Effect) {k : ℕ} {fs : Frames} {σ : Stack State} → Agree k fs σ → Agree k (apply_all_frames es fs) (apply_all (states off) es σ)
agree-all [] g = g
agree-all (e ∷ es) g = agree-all es (agree-apply e g)

pub agree-doing : {k : ℕ} {fs : Frames} {σ : Stack State} (f : Shape → List Effect) → Agree k fs σ → Agree k (doing_frames f fs) (doing (states off) f σ)
agree-doing {k} {fs} {σ} f g = subst (λ (Γ : Shape). Agree k (apply_all_frames (f Γ) fs) (doing (states off) f σ)) (agree-shape g) (agree-all (f (shape σ)) g)

-- mark_assigned_alive
pub agree-revived : {k : ℕ} {fs : Frames} {σ : Stack State} (n : Named) → Agree k fs σ → Agree k (mark_alive n fs) (revived (states off) n σ)
agree-revived nobody g = g
agree-revived (called n s) g = agree-mark n (λ a. alive) alive (λ a y. refl) g

-- what the effects ask of the locals is what find_local gives: the newest local's type, and whether there is one
abbrev pub var_in : Option Static → Option Var
var_in none = none
var_in (some s) = some (record { name = s.name; ty = s.ty; born = s.born })

numbered-static : (n d : ℕ) (ls : List Var) (Γ : Shape) → var_in (static_of n (numbered d ls Γ)) ≡ or_else (newest n ls) (var_in (static_of n Γ))
numbered-static n d [] Γ = refl
numbered-static n d (v ∷ ls) Γ = split (eqb v.name n) (numbered-static n d ls Γ)
  where
    split : (c : Bool) → var_in (static_of n (numbered d ls Γ)) ≡ or_else (newest n ls) (var_in (static_of n Γ))
        → var_in (cond c (some (at_depth d v)) (static_of n (numbered d ls Γ)))
        ≡ or_else (cond c (some v) (newest n ls)) (var_in (static_of n Γ))
    split true r = refl
    split false r = r

pub static-found : (n : ℕ) (fs : Frames) → var_in (static_of n (shape_of fs)) ≡ find_local n fs
static-found n [] = refl
static-found n (frame ls m ∷ fs) = numbered-static n (length fs) ls (shape_of fs) ∙ ap (or_else (newest n ls)) (static-found n fs)

has-static : (n : ℕ) (Γ : Shape) → has n Γ ≡ is_some (var_in (static_of n Γ))
has-static n [] = refl
has-static n (s ∷ Γ) = split (eqb s.name n) (has-static n Γ)
  where
    split : (c : Bool) → has n Γ ≡ is_some (var_in (static_of n Γ)) → (c || has n Γ) ≡ is_some (var_in (cond c (some s) (static_of n Γ)))
    split true r = refl
    split false r = r

pub has-found : (n : ℕ) (fs : Frames) → has n (shape_of fs) ≡ is_some (find_local n fs)
has-found n fs = has-static n (shape_of fs) ∙ ap is_some (static-found n fs)

-- mark_compiler_temp_consumed, of a name
pub hand-local : (T : Tables) (n p : ℕ) (fs : Frames) → apply_all_frames (resolve_all (shape_of fs) (hand_name T n p)) fs ≡ hand_local T n p fs
hand-local T n p fs =
    ap (λ (es : List Effect). apply_all_frames es fs) ((by-tag T (shape_of fs) 0 0).hand_over n p)
    ∙ (split (has n (shape_of fs) && is_temp_of T n) ∙ ap (λ (b : Bool). cond (b && is_temp_of T n) (hand_temp n p fs) fs) (has-found n fs))
  where
    split : (c : Bool) → apply_all_frames (cond c (hand n p ∷ []) []) fs ≡ cond c (hand_temp n p fs) fs
    split true = refl
    split false = refl

-- validate_identifier_use
use-of : (s : ℕ) (o : Option (Local State)) → use_frames s (state_of o) ≡ use_of s o
use-of s none = refl
use-of s (some (local l a)) = refl

agree-report : {k : ℕ} {fs : Frames} {σ : Stack State} (e : Effect) → Agree k fs σ → report_frame e fs ≡ report_of e σ
agree-report {σ = σ} (use' n s) g = ap (use_frames s) (agree-state n g) ∙ use-of s (lookup n σ)
agree-report (kill k n s) g = refl
agree-report (hand n s) g = refl
agree-report (bad_move s h) g = refl
agree-report (global_move s x) g = refl

agree-reports : (es : List Effect) {k : ℕ} {fs : Frames} {σ : Stack State} → Agree k fs σ → report_all_frames es fs ≡ report_all es σ
agree-reports [] g = refl
agree-reports (e ∷ es) g = let a = agree-report e g in let b = agree-reports es (agree-apply e g) in λ i. a i ++ b i

pub agree-use : {k : ℕ} {fs : Frames} {σ : Stack State} (f : Shape → List Effect) → Agree k fs σ → report_all_frames (f (shape_of fs)) fs ≡ report_all (f (shape σ)) σ
agree-use {fs = fs} {σ = σ} f g = ap (λ (Γ : Shape). report_all_frames (f Γ) fs) (sym (agree-shape g)) ∙ agree-reports (f (shape σ)) g

-- what is left once the innermost frame is popped
abbrev pub rest : List (List Var) → List (List Var)
rest [] = []
rest (l ∷ ls) = ls

layout-mark : (n : ℕ) (w : State) (fs : Frames) → layout (mark_as n w fs) ≡ layout fs
layout-mark n w [] = refl
layout-mark n w (frame ls m ∷ fs) = split (is_some (m n)) (layout-mark n w fs)
  where
    split : (c : Bool) → layout (mark_as n w fs) ≡ layout fs → layout (cond c (frame ls (insert n w m) ∷ fs) (frame ls m ∷ mark_as n w fs)) ≡ ls ∷ layout fs
    split true r = refl
    split false r = ap (λ (ks : List (List Var)). ls ∷ ks) r

layout-hand : (c : Bool) (n p : ℕ) (fs : Frames) → layout (move_if c n p fs) ≡ layout fs
layout-hand true n p fs = layout-mark n _ fs
layout-hand false n p fs = refl

layout-apply : (e : Effect) (fs : Frames) → layout (apply_frames e fs) ≡ layout fs
layout-apply (use' n s) fs = refl
layout-apply (kill deleted n s) fs = layout-mark n _ fs
layout-apply (kill moved n s) fs = layout-mark n _ fs
layout-apply (kill consumed n s) fs = layout-mark n _ fs
layout-apply (hand n s) fs = layout-hand (is_live (find_state n fs)) n s fs
layout-apply (bad_move s h) fs = refl
layout-apply (global_move s x) fs = refl

layout-all : (es : List Effect) (fs : Frames) → layout (apply_all_frames es fs) ≡ layout fs
layout-all [] fs = refl
layout-all (e ∷ es) fs = layout-all es (apply_frames e fs) ∙ layout-apply e fs

layout-revived : (n : Named) (fs : Frames) → layout (mark_alive n fs) ≡ layout fs
layout-revived nobody fs = refl
layout-revived (called n s) fs = layout-mark n alive fs

layout-register : (v : Var) (fs : Frames) → rest (layout (register_local v fs)) ≡ rest (layout fs)
layout-register v [] = refl
layout-register v (frame ls m ∷ fs) = refl

layout-merge : (f g : Bool) (bs ts : Frames) (es : Option Frames) → layout (merge_frames f g bs ts es) ≡ layout bs
layout-merge f g [] ts es = refl
layout-merge f g (frame ls m ∷ bs) ts es = split (frame_at (length bs) ts) (layout-merge f g bs ts es)
  where
    split : (x : Option Frame) → layout (merge_frames f g bs ts es) ≡ layout bs
        → layout (merge_frame f g (frame ls m) x (else_at (length bs) es) ∷ merge_frames f g bs ts es) ≡ ls ∷ layout bs
    split none r = ap (λ (ks : List (List Var)). ls ∷ ks) r
    split (some (frame ls' m')) r = ap (λ (ks : List (List Var)). ls ∷ ks) r

module _ (T : Tables) where
  layout-variable : (v : Var) (e : Expr) (fs : Frames) → rest (layout (after_variable_frames T v e fs)) ≡ rest (layout fs)
  layout-variable v e fs =
      ap rest (layout-all (take_over T (shape_of fs) v.name v.ty e) (register_local v (evaluate_frames T e fs)))
      ∙ (layout-register v (evaluate_frames T e fs) ∙ ap rest (layout-all (effects T (shape_of fs) e) fs))

  layout-assign : (e v : Expr) (fs : Frames) → layout (after_assign_frames T e v fs) ≡ layout fs
  layout-assign e v fs = layout-all (assign_takes T (shape_of fs) e v) (mark_alive (name_in (view e)) fs) ∙ layout-revived (name_in (view e)) fs

  -- the walk of a block pops its own frame and keeps the locals of the others
  pub layout-exit : {X Y : Type 0} (c : Code X Y) (fs : Frames) → layout (exit_frames T c fs) ≡ rest (layout fs)
  layout-exit (done x) [] = refl
  layout-exit (done x) (frame ls m ∷ fs) = refl
  layout-exit (expr_stmt s e y r) fs = layout-exit r (after_expr_frames T e fs) ∙ ap rest (layout-all (expr_stmt_effects T (shape_of fs) e) fs)
  layout-exit (variable k s n t e r) fs = layout-exit r (after_variable_frames T (declared_var s n t) e fs) ∙ layout-variable (declared_var s n t) e fs
  layout-exit (assign s e v t x r) fs =
      let gs = before_assign_frames T e v fs in
      layout-exit r (after_assign_frames T e v gs) ∙ ap rest (layout-assign e v gs ∙ layout-all (assign_effects T (shape_of fs) e v) fs)
  layout-exit (return s e t x r) fs = layout-exit r (evaluate_frames T e fs) ∙ ap rest (layout-all (effects T (shape_of fs) e) fs)
  layout-exit (bare_return s t x r) fs = layout-exit r fs
  layout-exit (block s c r) fs = layout-exit r (exit_frames T c (push fs)) ∙ ap rest (layout-exit c (push fs))
  layout-exit (if_else s e ts t us u r) fs =
      let gs = evaluate_frames T e fs in
      layout-exit r (merge_frames (sure_from t false) (sure_from u false) gs (exit_frames T t (push gs)) (some (exit_frames T u (push gs))))
      ∙ ap rest (layout-merge (sure_from t false) (sure_from u false) gs (exit_frames T t (push gs)) (some (exit_frames T u (push gs))) ∙ layout-all (effects T (shape_of fs) e) fs)
  layout-exit (if_then s e ts t r) fs =
      let gs = evaluate_frames T e fs in
      layout-exit r (merge_frames (sure_from t false) false gs (exit_frames T t (push gs)) none)
      ∙ ap rest (layout-merge (sure_from t false) false gs (exit_frames T t (push gs)) none ∙ layout-all (effects T (shape_of fs) e) fs)
  layout-exit (while s e ts t r) fs =
      let gs = evaluate_frames T e fs in
      layout-exit r (merge_frames false false gs (exit_frames T t (push gs)) none)
      ∙ ap rest (layout-merge false false gs (exit_frames T t (push gs)) none ∙ layout-all (effects T (shape_of fs) e) fs)
  layout-exit (jump k s x r) fs = layout-exit r fs

  -- a statement's parts
  pub agree-evaluate : {k : ℕ} {fs : Frames} {σ : Stack State} (e : Expr) → Agree k fs σ → Agree k (evaluate_frames T e fs) (evaluate (states off) T e σ)
  agree-evaluate e g = agree-doing (λ Γ. effects T Γ e) g

  pub agree-expr : {k : ℕ} {fs : Frames} {σ : Stack State} (e : Expr) → Agree k fs σ → Agree k (after_expr_frames T e fs) (after_expr (states off) T e σ)
  agree-expr e g = agree-doing (λ Γ. expr_stmt_effects T Γ e) g

  pub agree-before : {k : ℕ} {fs : Frames} {σ : Stack State} (e v : Expr) → Agree k fs σ → Agree k (before_assign_frames T e v fs) (before_assign (states off) T e v σ)
  agree-before e v g = agree-doing (λ Γ. assign_effects T Γ e v) g

  pub agree_after : {k : ℕ} {fs : Frames} {σ : Stack State} (e v : Expr) → Agree k fs σ → Agree k (after_assign_frames T e v fs) (after_assign (states off) T e v σ)
  agree_after {k} {fs} {σ} e v g =
      subst (λ (Γ : Shape). Agree k (apply_all_frames (assign_takes T Γ e v) (mark_alive (name_in (view e)) fs)) (after_assign (states off) T e v σ)) (agree-shape g)
      (agree-all (assign_takes T (shape σ) e v) (agree-revived (name_in (view e)) g))

  pub agree-variable : {d : ℕ} {fs : Frames} {σ : Stack State} (v : Var) (e : Expr) → Agree (suc d) fs σ
      → Agree (suc d) (after_variable_frames T v e fs) (after_variable (states off) T (at_depth d v) e σ)
  agree-variable {d} {fs} {σ} v e g =
      subst (λ (Γ : Shape). Agree (suc d) (apply_all_frames (take_over T Γ v.name v.ty e) (register_local v (evaluate_frames T e fs))) (after_variable (states off) T (at_depth d v) e σ)) (agree-shape g)
      (agree-all (take_over T (shape σ) v.name v.ty e) (agree-register v (agree-evaluate e g)))

  pub agree-entered : (ps : List Param) {fs : Frames} {σ : Stack State} → Agree 1 fs σ → Agree 1 (entered_frames ps fs) (entered (states off) T ps σ)
  agree-entered [] g = g
  agree-entered (x ∷ xs) g = agree-entered xs (agree-register (given_var x) g)

  -- every tree: the walk on frames and on the flat stack come to stacks that agree
  pub walk-agrees : {X Y : Type 0} (c : Code X Y) {d : ℕ} {fs : Frames} {σ : Stack State} → Agree (suc d) fs σ → Agree d (exit_frames T c fs) (exit (states off) T c d σ)
  walk-agrees (done x) g = agree-pop g
  walk-agrees (expr_stmt s e y r) g = walk-agrees r (agree-expr e g)
  walk-agrees (variable k s n t e r) g = walk-agrees r (agree-variable (declared_var s n t) e g)
  walk-agrees (assign s e v t x r) g = walk-agrees r (agree_after e v (agree-before e v g))
  walk-agrees (return s e t x r) g = walk-agrees r (agree-evaluate e g)
  walk-agrees (bare_return s t x r) g = walk-agrees r g
  walk-agrees (block s c r) g = walk-agrees r (walk-agrees c (agree-push g))
  walk-agrees (if_else s e ts t us u r) {fs = fs} g =
      let g' = agree-evaluate e g in
      let gs = evaluate_frames T e fs in
      walk-agrees r
      (agree-merge (sure_from t false) (sure_from u false) (sym (layout-exit t (push gs))) (sym (layout-exit u (push gs))) g'
      (walk-agrees t (agree-push g')) (walk-agrees u (agree-push g')))
  walk-agrees (if_then s e ts t r) {fs = fs} g =
      let g' = agree-evaluate e g in
      walk-agrees r (agree-merge-then (sure_from t false) false (sym (layout-exit t (push (evaluate_frames T e fs)))) g' (walk-agrees t (agree-push g')))
  walk-agrees (while s e ts t r) {fs = fs} g =
      let g' = agree-evaluate e g in
      walk-agrees r (agree-merge-then false false (sym (layout-exit t (push (evaluate_frames T e fs)))) g' (walk-agrees t (agree-push g')))
  walk-agrees (jump k s x r) g = walk-agrees r g

  -- every tree: the decisions are the same
  pub decide-agrees : (c : Tree) {d : ℕ} {fs : Frames} {σ : Stack State} (p : ℕ) (l : Option ℕ) (f : Bool) → Agree (suc d) fs σ → decide_frames T c p f fs ≡ decide (states off) T (concerns off) c p d l f σ
  decide-agrees (done x) p l f g = λ i. done (cond f [] (agree-tail T p g i))
  decide-agrees (expr_stmt s e y r) p l f g = ap (expr_stmt s e (auto T (ty_of e) && is_call (view e))) (decide-agrees r p l false (agree-expr e g))
  decide-agrees (variable k s n t e r) p l f g = ap (variable k s n t e) (decide-agrees r p l false (agree-variable (declared_var s n t) e g))
  decide-agrees (assign s e v t x r) p l f g =
      let g' = agree-before e v g in let q = decide-agrees r p l false (agree_after e v g') in
      λ i. assign s e v t (agree_assign T s e g' i) (q i)
  decide-agrees (return s e t x r) p l f g =
      let g' = agree-evaluate e g in let q = decide-agrees r p l true g' in
      λ i. return s e t (agree-return T (name_in (view e)) g' i) (q i)
  decide-agrees (bare_return s t x r) {σ = σ} p l f g =
      let q = decide-agrees r p l true g in
      λ i. bare_return s t (sym (gather_none (states off) T (λ s. drop_of 0 s.name s.ty) σ) i) (q i)
  decide-agrees (block s c r) p l f g =
      let a = decide-agrees c s l false (agree-push g) in let q = decide-agrees r p l (sure_from c false) (walk-agrees c (agree-push g)) in
      λ i. block s (a i) (q i)
  decide-agrees (if_else s e ts t us u r) {fs = fs} p l f g =
      let g' = agree-evaluate e g in
      let gs = evaluate_frames T e fs in
      let a = decide-agrees t ts l false (agree-push g') in
      let b = decide-agrees u us l false (agree-push g') in
      let q = decide-agrees r p l (sure_from t false && sure_from u false)
      (agree-merge (sure_from t false) (sure_from u false) (sym (layout-exit t (push gs))) (sym (layout-exit u (push gs))) g'
      (walk-agrees t (agree-push g')) (walk-agrees u (agree-push g'))) in
      λ i. if_else s e ts (a i) us (b i) (q i)
  decide-agrees (if_then s e ts t r) {fs = fs} p l f g =
      let g' = agree-evaluate e g in
      let a = decide-agrees t ts l false (agree-push g') in
      let q = decide-agrees r p l false (agree-merge-then (sure_from t false) false (sym (layout-exit t (push (evaluate_frames T e fs)))) g' (walk-agrees t (agree-push g'))) in
      λ i. if_then s e ts (a i) (q i)
  decide-agrees (while s e ts t r) {d = d} {fs = fs} p l f g =
      let g' = agree-evaluate e g in
      let a = decide-agrees t ts (some (suc d)) false (agree-push g') in
      let q = decide-agrees r p l false (agree-merge-then false false (sym (layout-exit t (push (evaluate_frames T e fs)))) g' (walk-agrees t (agree-push g'))) in
      λ i. while s e ts (a i) (q i)
  decide-agrees (jump k s x r) {σ = σ} p l f g =
      let q = decide-agrees r p l false g in
      λ i. jump k s (sym (gather_none (states off) T (λ s. drop_of 0 s.name s.ty) σ) i) (q i)

  -- every tree: the reports are the same
  pub report-agrees : (c : Tree) {d : ℕ} {fs : Frames} {σ : Stack State} (l : Option ℕ) (at : ℕ) → Agree (suc d) fs σ → report_frames T c l at fs ≡ report off T c d l at σ
  report-agrees (done x) l at g = refl
  report-agrees (expr_stmt s e y r) l at g =
      let a = agree-use (λ Γ. expr_stmt_effects T Γ e) g in let q = report-agrees r l (at + 5 + expr_bytes e) (agree-expr e g) in
      λ i. a i ++ (unused (auto T (ty_of e) && is_call (view e)) s e at ++ q i)
  report-agrees (variable k s n t e r) l at g =
      let a = agree-use (λ Γ. effects T Γ e) g in let q = report-agrees r l (at + 9 + expr_bytes e) (agree-variable (declared_var s n t) e g) in
      λ i. a i ++ q i
  report-agrees (assign s e v t x r) l at g =
      let a = agree-use (λ Γ. assign_effects T Γ e v) g in
      let q = report-agrees r l (at + 7 + expr_bytes e + expr_bytes v) (agree_after e v (agree-before e v g)) in
      λ i. a i ++ q i
  report-agrees (return s e t x r) l at g =
      let a = agree-use (λ Γ. effects T Γ e) g in let q = report-agrees r l (at + 8 + expr_bytes e) (agree-evaluate e g) in
      λ i. a i ++ q i
  report-agrees (bare_return s t x r) l at g =
      let q = report-agrees r l (at + 8) g in
      λ i. agree_left T s g i ++ q i
  report-agrees (block s c r) l at g =
      let a = report-agrees c l (at + 7) (agree-push g) in let q = report-agrees r l (at + 7 + code_bytes c) (walk-agrees c (agree-push g)) in
      λ i. a i ++ q i
  report-agrees (if_else s e ts t us u r) {fs = fs} l at g =
      let g' = agree-evaluate e g in
      let gs = evaluate_frames T e fs in
      let o = agree-use (λ Γ. effects T Γ e) g in
      let a = report-agrees t l (at + 11 + expr_bytes e) (agree-push g') in
      let b = report-agrees u l (at + 18 + expr_bytes e + code_bytes t) (agree-push g') in
      let q = report-agrees r l (at + 18 + expr_bytes e + code_bytes t + code_bytes u)
      (agree-merge (sure_from t false) (sure_from u false) (sym (layout-exit t (push gs))) (sym (layout-exit u (push gs))) g'
      (walk-agrees t (agree-push g')) (walk-agrees u (agree-push g'))) in
      λ i. o i ++ (a i ++ (b i ++ q i))
  report-agrees (if_then s e ts t r) {fs = fs} l at g =
      let g' = agree-evaluate e g in
      let o = agree-use (λ Γ. effects T Γ e) g in
      let a = report-agrees t l (at + 11 + expr_bytes e) (agree-push g') in
      let q = report-agrees r l (at + 12 + expr_bytes e + code_bytes t)
      (agree-merge-then (sure_from t false) false (sym (layout-exit t (push (evaluate_frames T e fs)))) g' (walk-agrees t (agree-push g'))) in
      λ i. o i ++ (a i ++ q i)
  report-agrees (while s e ts t r) {d = d} {fs = fs} l at g =
      let g' = agree-evaluate e g in
      let o = agree-use (λ Γ. effects T Γ e) g in
      let j = ap (λ (k : ℕ). report_frames T t (some k) (at + 11 + expr_bytes e) (push (evaluate_frames T e fs))) (agree-length g) in
      let a = j ∙ report-agrees t (some (suc d)) (at + 11 + expr_bytes e) (agree-push g') in
      let q = report-agrees r l (at + 11 + expr_bytes e + code_bytes t)
      (agree-merge-then false false (sym (layout-exit t (push (evaluate_frames T e fs)))) g' (walk-agrees t (agree-push g'))) in
      λ i. o i ++ (a i ++ q i)
  report-agrees (jump k s x r) l at g =
      let q = report-agrees r l (at + 5) g in
      λ i. agree-jump T s l g i ++ q i

-- every body: on mod.rs's frames the rules decide what they decide on the flat stack
pub body-agrees : (T : Tables) (x : Entry) (b : Block) → decide_body_frames T x b ≡ decide_body off T x b
body-agrees T x b = decide-agrees T b.code b.span none false (agree-push (agree-entered T (locals_of x) (agree-push nothing)))

-- every image: on mod.rs's frames the rules report what they report on the flat stack
pub reports-agree : (i : Image) → reports_frames i ≡ reports off i
reports-agree i =
    report-agrees i.tables i.body.code none (body_start i) (agree-push (agree-entered i.tables (locals_of i.entry) (agree-push nothing)))

-- The whole: of every image the rules give the same decisions and the same reports on mod.rs's frames and on the flat stack. Its steps: agree-local,
-- agree-state, agree-deleted, agree-moved, agree-consumed, agree-revived, agree-hand, agree-register, agree-push, agree-pop, agree-merge, agree-merge-then, agree-return,
-- agree-tail, agree_assign, walk-agrees; the empty stacks agree by `nothing`.
pub frames-agree : (i : Image) → (decide_body_frames i.tables i.entry i.body ≡ decide_body off i.tables i.entry i.body) × (reports_frames i ≡ reports off i)
frames-agree i = (body-agrees i.tables i.entry i.body, reports-agree i)
