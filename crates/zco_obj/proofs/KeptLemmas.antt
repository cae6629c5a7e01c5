-- What the words of an object's block say.
use Rattle.std.proofs.Common.{◌≡◌, ◌≢◌, ◌*◌, ◌≤◌, ◌<◌, ◌^◌, ℕ, zero, suc, List, [], ◌∷◌, length, get_or, Some, refl, sym, ◌∙◌, arith}
use Rattle.std.specs.Prelude.{All}
use Rattle.std.proofs.lemmas.List.Elements.{All-head, All-tail}
use Rattle.std.proofs.lemmas.List.Sums.{sum_by-cons}
use Rattle.sdr_base.specs.Blocks.{Blocks, Reaches}
use Rattle.sdr_base.specs.Linked.{first_of, last_of}
use Rattle.sdr_base.specs.Words.{HasWord}
use Rattle.sdr_base.specs.ZcoObjects.{CapsuleRow, ExtentRow, ObjectRow, account_number, capsule_addr, extent_addr, object_block}
use Rattle.sdr_base.specs.declared.account.Acct.{Acct}
use Rattle.sdr_base.specs.declared.account.Acct.TheVariants as accts
use Rattle.sdr_base.specs.declared.kind.Kind.TheVariants as kinds
use Rattle.sdr_base.proofs.StandingLemmas.{found}
use Rattle.sdr_base.proofs.WritingLemmas.{reaches, word_is}
use Rattle.zco_obj.specs.Kept.{CapsuleFits, ExtentFits, KeepsObject, ObjectFits, extents_length}
use Rattle.zco_obj.specs.Reading.{Tells}

-- the words of an object's block
abbrev pub object_words : ObjectRow → List ℕ
object_words row =
    account_number row.account
    ∷ first_of extent_addr 0 row.extents ∷ last_of extent_addr 0 row.extents
    ∷ first_of capsule_addr 0 row.headers ∷ last_of capsule_addr 0 row.headers
    ∷ first_of capsule_addr 0 row.trailers ∷ last_of capsule_addr 0 row.trailers
    ∷ row.part_offset ∷ row.part_length ∷ []

-- the ends of a chain fit their words
first_small : {X : Type 0} (P : X → Type 0) (addr : X → ℕ) → ((x : X) → P x → addr x < 2 ^ 64) → (xs : List X) → All P xs →
    first_of addr 0 xs < 2 ^ 64
first_small P addr small [] a = omega arith
first_small P addr small (x ∷ xs) a = small x (All-head P x xs a)

last_small : {X : Type 0} (P : X → Type 0) (addr : X → ℕ) → ((x : X) → P x → addr x < 2 ^ 64) → (prev : ℕ) → prev < 2 ^ 64 →
    (xs : List X) → All P xs → last_of addr prev xs < 2 ^ 64
last_small P addr small prev lt [] a = lt
last_small P addr small prev lt (x ∷ xs) a =
    last_small P addr small (addr x) (small x (All-head P x xs a)) xs (All-tail P x xs a)

pub first_capsule : (rows : List CapsuleRow) → All CapsuleFits rows → first_of capsule_addr 0 rows < 2 ^ 64
first_capsule rows a = first_small CapsuleFits capsule_addr (λ c f. f.addr) rows a

pub first_extent : (rows : List ExtentRow) → All ExtentFits rows → first_of extent_addr 0 rows < 2 ^ 64
first_extent rows a = first_small ExtentFits extent_addr (λ e f. f.addr) rows a

-- extents have so many bytes together at most
pub extents_most : (rows : List ExtentRow) → All ExtentFits rows → extents_length rows ≤ 2 ^ 40 * length rows
extents_most [] a = omega arith
extents_most (e ∷ es) a =
    let h = (All-head ExtentFits e es a).inside in
    let t = extents_most es (All-tail ExtentFits e es a) in
    let s = sum_by-cons (λ (x : ExtentRow). x.length) e es in omega (arith, h, t, s)

account_small : (a : Acct) → account_number a < 2 ^ 64
account_small accts.Inbound = omega arith
account_small accts.Outbound = omega arith

-- each word of an object fits
pub words_fit : (row : ObjectRow) → ObjectFits row → (n : ℕ) → n < 9 → get_or (object_words row) n 0 < 2 ^ 64
words_fit row f zero lt = account_small row.account
words_fit row f (suc zero) lt = first_extent row.extents f.extents
words_fit row f (suc (suc zero)) lt = last_small ExtentFits extent_addr (λ e g. g.addr) 0 (omega arith) row.extents f.extents
words_fit row f (suc (suc (suc zero))) lt = first_capsule row.headers f.headers
words_fit row f (suc (suc (suc (suc zero)))) lt = last_small CapsuleFits capsule_addr (λ c g. g.addr) 0 (omega arith) row.headers f.headers
words_fit row f (suc (suc (suc (suc (suc zero))))) lt = first_capsule row.trailers f.trailers
words_fit row f (suc (suc (suc (suc (suc (suc zero)))))) lt = last_small CapsuleFits capsule_addr (λ c g. g.addr) 0 (omega arith) row.trailers f.trailers
words_fit row f (suc (suc (suc (suc (suc (suc (suc zero))))))) lt =
    let p = f.part in let m = extents_most row.extents f.extents in let n = f.few in omega (arith, p, m, n)
words_fit row f (suc (suc (suc (suc (suc (suc (suc (suc zero)))))))) lt =
    let p = f.part in let m = extents_most row.extents f.extents in let n = f.few in omega (arith, p, m, n)
words_fit row f (suc (suc (suc (suc (suc (suc (suc (suc (suc n))))))))) lt = absurd (omega (arith, lt))

module _ {blocks : Blocks} {object : ℕ} {row : ObjectRow} (k : KeepsObject blocks object row) where
  -- its block is there
  pub object_found : blocks object ≡ Some (object_block row)
  object_found = found blocks object (object_block row) [] _ k.stands

  pub object_reaches : (end : ℕ) → end ≤ 72 → Reaches (blocks object) end
  object_reaches end le = reaches (blocks object) kinds.Object (object_words row) [] end object_found le

  -- and its words say its numbers
  pub object_word : (n value : ℕ) → n < 9 → HasWord (blocks object) n value → value ≡ get_or (object_words row) n 0
  object_word n value lt h =
      word_is (blocks object) kinds.Object (object_words row) [] n value object_found lt (words_fit row k.fits n lt) h

-- the account of a number
inbound_is : (a : Acct) → account_number a ≡ 0 → accts.Inbound ≡ a
inbound_is accts.Inbound e = refl
inbound_is accts.Outbound e = absurd (omega (arith, e))

outbound_is : (a : Acct) → account_number a ≢ 0 → accts.Outbound ≡ a
outbound_is accts.Inbound n = absurd (n refl)
outbound_is accts.Outbound n = refl

pub tells_inbound : {blocks : Blocks} {object value : ℕ} → HasWord (blocks object) 0 value → value ≡ 0 →
    Tells blocks object (λ row. row.account) accts.Inbound
tells_inbound {value = value} h z = record {
  tells = λ row k. inbound_is row.account (sym (object_word k 0 value (omega arith) h) ∙ z);
}

pub tells_outbound : {blocks : Blocks} {object value : ℕ} → HasWord (blocks object) 0 value → value ≢ 0 →
    Tells blocks object (λ row. row.account) accts.Outbound
tells_outbound {value = value} h n = record {
  tells = λ row k. outbound_is row.account (λ z. n (object_word k 0 value (omega arith) h ∙ z));
}
