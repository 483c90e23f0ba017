use Rattle.std.proofs.Common.{◌≡◌, arith, length, map}
use lib.ListN.{length-map}
use Rattle.image_fields.proofs.Answers.{passed}
use Rattle.tables.specs.Name.{name_of}
use Rattle.tables.proofs.Placing.{placing-start, placing-stop, placing-done, placing-next}
use Rattle.tables_signatures.proofs.Signatures.{ends-none, ends_next, struct-in, struct-read, struct-fault}
use Rattle.tables_signatures.proofs.Names.fill_structs.Goals as goal

pub loop-i-init : goal.loop-i-init
loop-i-init c = ((_, placing-start _ _ _ _ _ _ c.requires.0, ends-none _), tt)

pub returns-in_err-name : goal.returns-in_err-name
returns-in_err-name c = let inv = c.loop-i.invariant.0 in
    let g = placing-stop _ _ _ inv.1 c.loop-i-test.true (struct-fault (c.in_err-name.ensures inv.0 inv.2)) in
    rw (passed c.from_residual.ensures) (record { value = g.0; structs = g.1 })

pub overflow_cast-structs : goal.overflow_cast-structs
overflow_cast-structs c = let inv = c.loop-i.invariant.0 in
    let g = struct-read (c.in_ok-name.ensures inv.0 inv.2) in
    let l = (struct-in _ _ _ _ _ _ g.1).inside in
    omega (arith, c.requires.1)

pub loop-i-preserved : goal.loop-i-preserved
loop-i-preserved c = let inv = c.loop-i.invariant.0 in
    let g = struct-read (c.in_ok-name.ensures inv.0 inv.2) in
    let h = struct-in _ _ _ _ _ _ g.1 in
    let k = h.known in
    let l : length (map (name_of c.args.self.s.now) c.args.self.starts.now) ≡ length c.args.self.starts.now = length-map c.args.self.starts.now (name_of c.args.self.s.now) in
    let z = g.2 in
    ((_, placing-next _ _ _ inv.1 c.loop-i-test.true h.inside g.1 h.is, ends_next _ inv.0 g.0 _ g.2), omega arith)

pub returns : goal.returns
returns c = let g = placing-done _ _ _ c.loop-i.invariant.0.1 c.loop-i-test.false in record { value = g.0; structs = g.1 }
