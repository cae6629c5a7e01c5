-- A ticket's block, as it is read and as its grant is written.
use Rattle.std.proofs.Common.{◌≡◌, ◌≤◌, ◌<◌, ◌*◌, ◌^◌, ◌==◌, ℕ, List, [], take, drop, Bool, true, false, Some, refl, sym, ap, ◌∙◌, arith, subst, get_or}
use Rattle.std.specs.Prelude.{Option}
use Rattle.std.proofs.lemmas.List.{get_or-take, get_or-drop}
use Rattle.byteorder.specs.Endian.{big_number}
use Rattle.sdr_base.specs.Blocks.{Block, HasBytes, Reaches, overwritten}
use Rattle.sdr_base.specs.Sources.{flag_word}
use Rattle.sdr_base.specs.Stored.{number_at}
use Rattle.sdr_base.specs.Tickets.{ticket_words}
use Rattle.sdr_base.specs.Words.{layout}
use Rattle.sdr_base.specs.declared.account.Acct.{Acct}
use Rattle.sdr_base.specs.declared.account.Amounts.{Amounts}
use Rattle.sdr_base.specs.declared.kind.Kind.TheVariants as kinds
use Rattle.sdr_base.proofs.LayoutLemmas.{number_at-layout}
use Rattle.sdr_base.proofs.StoredLemmas.{big_number-same}
use Rattle.sdr_base.proofs.WritingLemmas.{reaches}
use Rattle.sdr_model.specs.TicketRows.{ticket_row}
use Rattle.sdr_model.specs.declared.accounts.Ticket.{Ticket}
use Rattle.zco_acct.specs.Kept.{KeepsTicket, SomeTicket, queued_block}
use Rattle.zco_acct.specs.Tickets.{TellsTicket, amounts_at, grant_bytes, granted_with, queued_at, with_grant}
use Rattle.sdr_base.specs.Objects.{Heap, with_bytes}
use Rattle.zco_acct.specs.declared.ticket.Queued.{Queued}

-- the number in the first eight bytes from a place on
pub number_in : (place count : ℕ) (bytes : List ℕ) → 8 ≤ count →
    big_number 8 (take count (drop place bytes)) ≡ number_at place bytes
unfolding number_at
number_in place count bytes le = big_number-same place 8 bytes (take count (drop place bytes)) (λ i lt.
    get_or-take count (drop place bytes) i 0 (omega (arith, le, lt)) ∙ get_or-drop place bytes i 0)

-- the words of a ticket
abbrev pub words : Acct → ℕ → Ticket → List ℕ
words acct next t = ticket_words acct next (ticket_row t)

-- a ticket's block has 96 bytes
pub ticket_reaches : {found : Option Block} → SomeTicket found → Reaches found 96
ticket_reaches {found} s =
    reaches found kinds.Ticket (words s.acct s.next s.ticket) [] 96 s.keeps.block (omega arith)

-- its bytes are the layout of its words
pub bytes_read : {found : Option Block} {acct : Acct} {next : ℕ} {t : Ticket} (bytes : List ℕ) →
    KeepsTicket found acct next t → HasBytes found 0 96 bytes → bytes ≡ layout (words acct next t) []
unfolding layout
bytes_read {found} {acct} {next} {t} bytes k h =
    let at : HasBytes (Some (queued_block acct 0 next t)) 0 96 bytes = subst (λ o. HasBytes o 0 96 bytes) k.block h in at

flag_small : (b : Bool) → flag_word b < 2 ^ 64
flag_small true = omega arith
flag_small false = omega arith

flag_read : (b : Bool) → (flag_word b == 1) ≡ b
flag_read true = refl
flag_read false = refl

module _ {found : Option Block} {acct : Acct} {next : ℕ} {t : Ticket} (bytes : List ℕ) (k : KeepsTicket found acct next t)
    (h : HasBytes found 0 96 bytes) where
  -- a word of its bytes
  word_at : (n value : ℕ) → n < 12 → get_or (words acct next t) n 0 ≡ value → value < 2 ^ 64 →
      number_at (8 * n) bytes ≡ value
  word_at n value lt is fits =
      ap (number_at (8 * n)) (bytes_read bytes k h)
      ∙ number_at-layout (words acct next t) [] n (omega (arith, lt)) (subst (λ v. v < 2 ^ 64) (sym is) fits)
      ∙ is

  pub coarse_at : number_at 16 bytes ≡ t.coarse
  coarse_at = let f = k.fits.coarse in word_at 2 t.coarse (omega arith) refl (omega (arith, f))

  pub fine_at : number_at 24 bytes ≡ t.fine
  fine_at = let f = k.fits.fine in word_at 3 t.fine (omega arith) refl (omega (arith, f))

  asked_at : amounts_at 4 bytes ≡ t.asked
  asked_at =
      let file = word_at 4 t.asked.file (omega arith) refl k.fits.asked.file in
      let bulk = word_at 5 t.asked.bulk (omega arith) refl k.fits.asked.bulk in
      let heap = word_at 6 t.asked.heap (omega arith) refl k.fits.asked.heap in
      λ i. record { file = file i; bulk = bulk i; heap = heap i }

  left_at : amounts_at 7 bytes ≡ t.left
  left_at =
      let file = word_at 7 t.left.file (omega arith) refl k.fits.left.file in
      let bulk = word_at 8 t.left.bulk (omega arith) refl k.fits.left.bulk in
      let heap = word_at 9 t.left.heap (omega arith) refl k.fits.left.heap in
      λ i. record { file = file i; bulk = bulk i; heap = heap i }

  granted_at : (number_at 80 bytes == 1) ≡ t.granted
  granted_at =
      ap (λ n. n == 1) (word_at 10 (flag_word t.granted) (omega arith) refl (flag_small t.granted)) ∙ flag_read t.granted

  -- they say the ticket, and the next one's address
  pub is_told : (addr : ℕ) → t.block ≡ addr → queued_at addr bytes ≡ record { ticket = t; next = next }
  is_told addr at =
      let number = word_at 0 t.number (omega arith) refl k.fits.number in
      let behind = word_at 11 next (omega arith) refl k.small in
      λ i. record {
        ticket = record {
          block = sym at i;
          number = number i;
          coarse = coarse_at i;
          fine = fine_at i;
          asked = asked_at i;
          left = left_at i;
          granted = granted_at i;
        };
        next = behind i;
      }

-- the bytes of whichever ticket stands there were read
pub tells : {found : Option Block} {addr : ℕ} {value : Queued} (bytes : List ℕ) → HasBytes found 0 96 bytes →
    value ≡ queued_at addr bytes → TellsTicket found addr value
tells {addr = addr} bytes h is = record { tells = λ acct next t k at. is ∙ is_told bytes k h addr at }

-- its priorities are those of a ticket
pub coarse_small : {found : Option Block} (bytes : List ℕ) → SomeTicket found → HasBytes found 0 96 bytes →
    number_at 16 bytes < 256
coarse_small bytes s h = let e = coarse_at bytes s.keeps h in let f = s.keeps.fits.coarse in omega (arith, e, f)

pub fine_small : {found : Option Block} (bytes : List ℕ) → SomeTicket found → HasBytes found 0 96 bytes →
    number_at 24 bytes < 256
fine_small bytes s h = let e = fine_at bytes s.keeps h in let f = s.keeps.fits.fine in omega (arith, e, f)

-- a grant that is written makes it the block of the granted ticket
pub grant_written : (acct : Acct) (previous next : ℕ) (t : Ticket) (left : Amounts) →
    overwritten (Some (queued_block acct previous next t)) 56 (grant_bytes left)
    ≡ Some (queued_block acct previous next (granted_with t left))
unfolding layout
grant_written acct previous next t left = refl

-- so it is where these bytes were put
pub grant_put : (old new : Heap) (addr : ℕ) (left : Amounts) (bytes : List ℕ) → bytes ≡ grant_bytes left →
    new ≡ with_bytes old addr 56 bytes → new ≡ with_grant old addr left
grant_put old new addr left bytes e w = w ∙ ap (λ (l : List ℕ). with_bytes old addr 56 l) e
