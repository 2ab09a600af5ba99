-- Worked examples: documents that differ inside a comment of each place; and two that differ inside a declaration, where what stands
-- between `<!--` and `-->` does steer.
use Prim.Native.String as string
use Rattle.std.specs.Prelude.{◌≡◌, refl, List, [], ◌∷◌, map, Bool, false, Ok, Err}
use Rattle.slices.specs.Bytes.{bytes}
use Rattle.utf8.specs.WellFormed.{sequence, ill_formed}
use Rattle.utf8.specs.WhiteSpace.{characters, trim_start, trim_end}
use Rattle.scan.specs.Ignorable.{ignorable}
use Rattle.document.specs.Tags.{attribute, gather}
use Rattle.document.specs.Tokens.{opening, closing, next, tokens}
use Rattle.document.specs.Rows.{row_words}
use Rattle.document.specs.Refusals.{bare, fault_in}
use Rattle.document.specs.Elements.{among, kind_of, may_hold, opens_as}
use Rattle.document.specs.Reading.{step, begins, unsupported, docstring_in, run}
use Rattle.document.specs.Whole.{Room, meaning, read, verdict_of}
use Rattle.document.specs.Verdict.{Verdict, counts}
use Rattle.met.specs.Passed.{passed_over}
use Rattle.met.specs.Met.{met_tokens, met_comments}
use Rattle.remarks.specs.Differing.{Differ}

-- before the root, in an element, in skipped content, in a docstring; a comment may hold what looks like markup, but not its own end
pub before_root : Differ 0 8 (bytes "<!--a--><node/>") (bytes "<!--<--><node/>")
unfolding met_tokens passed_over tokens next ignorable opening closing gather attribute step begins opens_as kind_of may_hold ill_formed sequence
before_root = record { met = refl; before = refl; closes = refl; also = refl; after = refl; utf8 = refl; utf8_also = refl }

pub in_element : Differ 6 14 (bytes "<node><!--a--></node>") (bytes "<node><!-->--></node>")
unfolding met_tokens passed_over tokens next ignorable opening closing gather attribute step begins opens_as kind_of may_hold ill_formed sequence
in_element = record { met = refl; before = refl; closes = refl; also = refl; after = refl; utf8 = refl; utf8_also = refl }

pub in_skipped : Differ 9 17 (bytes "<node><x><!--a--></x></node>") (bytes "<node><x><!--&--></x></node>")
unfolding met_tokens passed_over tokens next ignorable opening closing gather attribute step begins unsupported opens_as kind_of may_hold ill_formed sequence
in_skipped = record { met = refl; before = refl; closes = refl; also = refl; after = refl; utf8 = refl; utf8_also = refl }

pub in_docstring : Differ 17 25 (bytes "<node><docstring><!--a--></docstring></node>") (bytes "<node><docstring><!-- --></docstring></node>")
unfolding met_tokens passed_over tokens next ignorable opening closing gather attribute step begins docstring_in opens_as kind_of may_hold trim_start trim_end characters ill_formed sequence
in_docstring = record { met = refl; before = refl; closes = refl; also = refl; after = refl; utf8 = refl; utf8_also = refl }

-- in a declaration: not met, and the one is refused, the other accepted
abbrev pub room : Room
room = record { rows = 16; warnings = 0; text = 0 }

abbrev pub declarations : List (string.String × Bool × Verdict)
declarations = ("<!x [<!--'-->]><a/>", false, Err (bare 25 10)) ∷ ("<!x [<!-- -->]><a/>", false, Ok (counts 1 0 0)) ∷ []

pub steers : map (λ c. among 5 (met_comments (bytes c.0))) declarations ≡ map (λ c. c.1) declarations
unfolding met_tokens passed_over tokens next ignorable opening closing gather attribute step begins opens_as kind_of may_hold fault_in
steers = refl

pub steered : map (λ c. verdict_of (read (bytes c.0) room)) declarations ≡ map (λ c. c.2) declarations
unfolding read meaning fault_in ill_formed sequence run tokens next ignorable opening closing gather attribute step begins opens_as kind_of may_hold row_words
steered = refl
