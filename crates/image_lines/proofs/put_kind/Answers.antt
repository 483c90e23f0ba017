use Prim.Native.Nat.{ℕ}
use native.Mathlib.Omega.{arith}
use mathlib.Core.Path.{◌≡◌, sym, ap, ◌∙◌}
use lib.Seq.{sets}
use Rattle.rules_page.specs.Page.{bytes, kind_names, kind_name}
use Rattle.image_lines.proofs.put_kind.Goals as goal

pub returns-in-1 : goal.returns-in-1
unfolding kind_name kind_names bytes
returns-in-1 c = c.put_name.ensures ∙ ap (λ (k : ℕ). sets c.args.text.now 0 (kind_name k)) (sym c.in-1.is)

pub returns-in-2 : goal.returns-in-2
unfolding kind_name kind_names bytes
returns-in-2 c = c.put_name-in-2.ensures ∙ ap (λ (k : ℕ). sets c.args.text.now 0 (kind_name k)) (sym c.in-2.is)

pub returns-in-3 : goal.returns-in-3
unfolding kind_name kind_names bytes
returns-in-3 c = c.put_name-in-3.ensures ∙ ap (λ (k : ℕ). sets c.args.text.now 0 (kind_name k)) (sym c.in-3.is)

pub returns-in-4 : goal.returns-in-4
unfolding kind_name kind_names bytes
returns-in-4 c = c.put_name-in-4.ensures ∙ ap (λ (k : ℕ). sets c.args.text.now 0 (kind_name k)) (sym c.in-4.is)

pub returns-in-5 : goal.returns-in-5
unfolding kind_name kind_names bytes
returns-in-5 c = c.put_name-in-5.ensures ∙ ap (λ (k : ℕ). sets c.args.text.now 0 (kind_name k)) (sym c.in-5.is)

pub returns-in-6 : goal.returns-in-6
unfolding kind_name kind_names bytes
returns-in-6 c = c.put_name-in-6.ensures ∙ ap (λ (k : ℕ). sets c.args.text.now 0 (kind_name k)) (sym c.in-6.is)

pub returns-in-7 : goal.returns-in-7
unfolding kind_name kind_names bytes
returns-in-7 c = c.put_name-in-7.ensures ∙ ap (λ (k : ℕ). sets c.args.text.now 0 (kind_name k)) (sym c.in-7.is)

pub returns-in_default : goal.returns-in_default
unfolding kind_name kind_names bytes
returns-in_default c =
    let e : c.args.kind ≡ 8 = omega arith in
    c.put_name-in_default.ensures ∙ ap (λ (k : ℕ). sets c.args.text.now 0 (kind_name k)) (sym e)
