-- A lent table, and what is said of its rows.
use Rattle.std.specs.Prelude.{ℕ, List}
use Rattle.items.specs.Words.{rows_shown}
use Rattle.items.specs.Content.{Row}
use Rattle.order.specs.declared.table.Table.{Table}

-- the n rows, with the bytes that they show
abbrev pub shown_rows : Table → List Row
shown_rows t = rows_shown t.document.now t.text.now t.rows.now t.n

-- what is said of a document, a text and rows, of those of a table; and what is said of n rows too
abbrev pub of : {A : Type 1} → (List ℕ → List ℕ → List ℕ → A) → Table → A
of says t = says t.document.now t.text.now t.rows.now

abbrev pub over : {A : Type 1} → (List ℕ → List ℕ → List ℕ → ℕ → A) → Table → A
over says t = says t.document.now t.text.now t.rows.now t.n
