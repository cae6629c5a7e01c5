-- What a word holds of sums, and the room that is left beside them.
use Rattle.std.proofs.Common.{◌≡◌, ◌≤◌, ◌∷◌, [], ℕ, List, Bool, true, false, cond, refl, arith, ap, ◌∙◌}
use Rattle.sdr_base.specs.declared.account.Amounts.{Amounts}
use Rattle.sdr_base.specs.declared.kind.Space.{Space}
use Rattle.sdr_base.specs.declared.kind.Space.TheVariants as spaces
use Rattle.sdr_model.specs.Amounts.{amount, amounts_by, are_within, minus, plus}
use Rattle.sdr_model.specs.Queue.{granted, served}
use Rattle.sdr_model.specs.declared.accounts.Ticket.{Ticket}
use Rattle.sdr_model.proofs.AmountLemmas.{same_amounts}
use Rattle.mem_parts.specs.Capped.{capped_by}
use Rattle.mem_parts.specs.Rooms.{served_in}

-- a word holds all of what is small
pub capped-small : (of : Space → ℕ) → ((space : Space) → of space ≤ 9223372036854775808) → capped_by of ≡ amounts_by of
capped-small of small = same_amounts _ _ by
  where
    by : (space : Space) → amount (capped_by of) space ≡ amount (amounts_by of) space
    by spaces.File = omega (arith, small spaces.File)
    by spaces.Bulk = omega (arith, small spaces.Bulk)
    by spaces.Heap = omega (arith, small spaces.Heap)

minus-plus : (most a b : Amounts) → minus most (plus a b) ≡ minus (minus most a) b
minus-plus most a b = same_amounts _ _ by
  where
    by : (space : Space) → amount (minus most (plus a b)) space ≡ amount (minus (minus most a) b) space
    by spaces.File = omega arith
    by spaces.Bulk = omega arith
    by spaces.Heap = omega arith

-- a queue is served by the room alone
pub served-room : (most o : Amounts) (ts : List Ticket) → served most o ts ≡ served_in (minus most o) ts
served-room most o [] = refl
served-room most o (t ∷ ts) =
    by t.granted (are_within t.asked (minus most o)) (served-room most o ts)
    (served-room most (plus o t.asked) ts ∙ ap (λ room. served_in room ts) (minus-plus most o t.asked))
  where
    by : (g c : Bool) → served most o ts ≡ served_in (minus most o) ts
        → served most (plus o t.asked) ts ≡ served_in (minus (minus most o) t.asked) ts
        → cond g (t ∷ served most o ts) (cond c (granted t ∷ served most (plus o t.asked) ts) (t ∷ ts))
        ≡ cond g (t ∷ served_in (minus most o) ts) (cond c (granted t ∷ served_in (minus (minus most o) t.asked) ts) (t ∷ ts))
    by true c rest more = ap (λ us. t ∷ us) rest
    by false true rest more = ap (λ us. granted t ∷ us) more
    by false false rest more = refl
