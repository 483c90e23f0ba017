use native.Mathlib.Omega.{arith}
use Rattle.entries_page.proofs.Paging.{page-lined}
use Rattle.entries_page.proofs.write_page.Goals as goal

pub returns : goal.returns
returns c = page-lined c.args.env.switches c.page_image.result c.page_image.ensures (λ z. omega arith)
