-- The code's answers for what the definitions say.
use Rattle.std.specs.Prelude.{ℕ, List}
use Rattle.image_body.specs.Expr.{Scope}
use Rattle.image_body.specs.declared.Env.{Env}

-- what the code reads a body against
abbrev pub scope_of : Env → List ℕ → Scope
scope_of e g = record { names = e.names; types = e.types; generic = g; expr_depth = e.depth }
