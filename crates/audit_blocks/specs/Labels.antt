-- What the leader of a block tells.
use Rattle.std.specs.Prelude.{◌≡◌, ◌==◌, ◌&&◌, ◌||◌, ℕ, Bool, cond, not, nat_le, List}
use Rattle.sdr_base.specs.Rules.{words_for}
use Rattle.sdr_base.specs.Stored.{leader_kind, leader_length, leader_words}
use Rattle.audit_blocks.specs.declared.label.Label.{Label}
use Rattle.audit_blocks.specs.declared.spot.Spot.{Spot}
use Rattle.audit_blocks.specs.declared.spot.Spot.TheVariants as spots

-- this is the leader at a place
pub record IsLabel (bytes : List ℕ) (place : ℕ) (label : Label) : Type 0 where
  pub kind : label.kind ≡ leader_kind place bytes
  pub words : label.words ≡ leader_words place bytes
  pub length : label.length ≡ leader_length place bytes

-- whether the block is in use
abbrev pub is_led : Label → Bool
is_led label = not (label.kind == 0)

-- what a word is told that the block begins with
abbrev pub label_spot : Label → Spot
label_spot label = cond (is_led label) spots.Used spots.Free

-- whether the block has the words that its length needs
abbrev pub has_enough : Label → Bool
has_enough label = nat_le (words_for label.length) label.words

-- whether a small block has the words that its length needs, and no more where it is in use
abbrev pub fits_small : Label → Bool
fits_small label = has_enough label && (not (is_led label) || words_for label.length == label.words)

-- whether a free block has length 0
abbrev pub label_empty : Label → Bool
label_empty label = is_led label || label.length == 0
