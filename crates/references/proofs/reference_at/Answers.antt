-- `references::reference_at` meets its contract.
use native.Mathlib.Omega.{arith}
use Rattle.std.proofs.lemmas.Result.{err_from_is_err_and}
use Rattle.references.proofs.Pieces.{piece_bad, piece_char}
use Rattle.references.proofs.reference_at.Goals as goal

pub returns-in_err-c : goal.returns-in_err-c
returns-in_err-c c =
    let p = err_from_is_err_and c.from_residual.result c.from_residual.ensures.1 in
    rw (p.1, p.2) (piece_bad c.args.v.now c.args.at c.requires.ampersand c.find-end.ensures (omega arith) c.reference_of.ensures c.in_err-c.was)

pub returns : goal.returns
returns c = piece_char c.args.v.now c.args.at c.requires.ampersand c.find-end.ensures (omega arith) c.reference_of.ensures c.in_ok-c.was
