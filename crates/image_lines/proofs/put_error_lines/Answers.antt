use lib.ListN.{get_or}
use Rattle.rules_page.specs.Page.{blanks, kind_name, head}
use Rattle.image_lines.proofs.Texts.{kind-length, head-length, head-put}
use Rattle.image_lines.proofs.Entries.{error-put}
use native.Mathlib.Omega.{arith}
use Rattle.image_lines.proofs.put_error_lines.Goals as goal

pub put_continued-requires : goal.put_continued-requires
put_continued-requires c = omega (arith, c.put_line-next.ensures.1, c.three_on-end.ensures)

pub returns : goal.returns
unfolding blanks
returns c =
    let l = c.args.numbers.now in
    let h = head-put (kind_name (get_or l 0 0)) (get_or l 1 0) (kind-length (get_or l 0 0)) c.put_kind.ensures c.put_digits.ensures in
    let first = c.put_line-next.ensures.0 (head (kind_name (get_or l 0 0)) (get_or l 1 0)) (head-length (kind_name (get_or l 0 0)) (get_or l 1 0) (kind-length (get_or l 0 0))) h in
    error-put l c.three_on-end.result (omega arith) c.three_on-end.ensures c.requires.3 first c.put_continued.ensures
