-- The theorems.
use mathlib.Core.Path.{◌≡◌, subst, sym, ◌∙◌}
use mathlib.Core.Option.{some}
use Rattle.document.specs.Whole.{Says}
use Rattle.roundtrip.specs.Statement.{around, ReadBack, BytesTell}
use Rattle.roundtrip.specs.Entries.{Returns, EntriesAgree, EntriesTell}
use Rattle.roundtrip.proofs.Equal.{told}
use Rattle.roundtrip.proofs.SoundRows.{content_good, content_there}
use Rattle.roundtrip.proofs.Whole.{answers}
use Rattle.roundtrip.proofs.Entries.{reads_as, returns, leaves}

pub read_back : ReadBack
read_back document text ws n i e k =
    let t = content_there document text ws n i k in
    let g = content_good document text ws n i t.0 e t.1 in
    (t.0, t.1, λ name room h f. reads_as (answers name h t.0 t.2 g.0 g.1 room f))

pub bytes_tell : BytesTell
bytes_tell document text ws document' text' ws' n i n' i' c c' e e' h h' =
    told c c' (content_good document text ws n i c e h).0 (content_good document' text' ws' n' i' c' e' h').0

pub entries_agree : EntriesAgree
entries_agree document text ws out n i room m w k =
    let l = leaves document text ws out n i room m w in
    let t = content_there document text ws n i k in
    let g = content_good document text ws n i t.0 l.is_sound t.1 in
    let q : some l.item ≡ some t.0 = sym l.is_item ∙ t.1 in
    let same : l.item ≡ t.0 = cc in (
      t.0,
      t.1,
      λ name rows' warnings text' lent r h f p.
          subst (λ b. Says (around name b) lent rows' warnings text' r → Returns (around name b) rows' text' name t.0 r)
          (sym (rw same at l.bytes))
          (λ p. returns (answers name h t.0 t.2 g.0 g.1 lent f) p)
          p,
    )

pub entries_tell : EntriesTell
entries_tell document text ws out document' text' ws' out' n i room m n' i' room' m' w w' =
    let l = leaves document text ws out n i room m w in
    let k = leaves document' text' ws' out' n' i' room' m' w' in (
      l.item,
      k.item,
      l.is_item,
      k.is_item,
      rw (l.bytes, k.bytes)
          (bytes_tell document text ws document' text' ws' n i n' i' l.item k.item l.is_sound k.is_sound l.is_item k.is_item),
    )
