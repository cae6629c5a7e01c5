-- The block of a string as it comes.
use Rattle.std.proofs.Common.{◌≡◌, ℕ, suc, ◌+◌, ◌≤◌, ◌/◌, take, List, ◌∷◌, ◌++◌, length, ap, ◌∙◌, arith, subst}
use Rattle.std.proofs.lemmas.List.{take-append-le, take_all}
use Rattle.sdr_base.specs.Making.{MakesThing}
use Rattle.sdr_base.specs.Objects.{Heap}
use Rattle.sdr_base.specs.Strings.{string_entries}
use Rattle.sdr_base.specs.Words.{TakesBytes}
use Rattle.sdr_base.specs.declared.kind.Kind.TheVariants as kinds
use Rattle.sdr_base.proofs.MakingLemmas.{taken_makes}
use Rattle.sdr_string.specs.Calls.{MakesString}

-- the bytes of a buffer from the front on, where the text was copied behind its length
pub front_of : (text buf rest : List ℕ) → buf ≡ text →
    take (1 + length text) (length text ∷ (buf ++ rest)) ≡ length text ∷ text
front_of text buf rest e =
    let n : 1 + length text ≡ suc (length text) = omega arith in
    ap (λ k. take k (length text ∷ (buf ++ rest))) n
    ∙ ap (λ (b : List ℕ). length text ∷ take (length text) (b ++ rest)) e
    ∙ ap (λ (t : List ℕ). length text ∷ t)
    (take-append-le (length text) text rest (omega arith) ∙ take_all (length text) text (omega arith))

pub made : {addr : ℕ} {old new : Heap} (text bytes : List ℕ) → length text ≤ 255 → bytes ≡ length text ∷ text →
    TakesBytes kinds.Text bytes addr old new → MakesString text addr old new
made {addr} {old} {new} text bytes short e t = record {
  short = short;
  makes =
      let one : suc (length text) ≡ 1 + length text = omega arith in
      subst (λ (n : ℕ). MakesThing n addr (string_entries addr text) old new) one
      (taken_makes (subst (λ (b : List ℕ). TakesBytes kinds.Text b addr old new) e t));
}

-- so they are as many
pub room_of : (text buf rest : List ℕ) → buf ≡ text →
    26 + length (take (1 + length text) (length text ∷ (buf ++ rest))) / 32 ≤ 26 + (1 + length text) / 32
room_of text buf rest e =
    let n : length (take (1 + length text) (length text ∷ (buf ++ rest))) ≡ suc (length text) = ap length (front_of text buf rest e) in
    omega (arith, n)
