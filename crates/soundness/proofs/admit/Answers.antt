-- `soundness::admit` meets its contract.
use Rattle.std.proofs.Common.{rules}
use Rattle.soundness.proofs.Rows.{admit_document, admit_text, admit_checked}
use Rattle.soundness.proofs.admit.Goals as goal
use Rattle.soundness.proofs.admit.Goals.{then-document-gt1048576-via-then-document-gt1048576, then-document-gt1048576-via-else-document-gt1048576+then-text-gt1048576}

pub returns-then-document-gt1048576 : goal.returns-then-document-gt1048576
returns-then-document-gt1048576 c =
    rw c.new.ensures (elim c.then-document-gt1048576.branch [
      | then-document-gt1048576-via-then-document-gt1048576 w ↦ admit_document w.if-document-gt1048576.true
      | then-document-gt1048576-via-else-document-gt1048576+then-text-gt1048576 w ↦ admit_text w.if-document-gt1048576.false w.if-text-gt1048576.true
    ])

pub returns : goal.returns
returns c = admit_checked (search rules) (search rules) c.check.ensures c.map_err.ensures.cases (λ p f q. search rules)
