-- Which lines the service of a queue touches.
use Rattle.std.proofs.Common.{◌≡◌, ◌⊎◌, inl, inr, ◌+◌, ◌≤◌, ℕ, List, [], ◌∷◌, ◌++◌, Bool, true, false, not, cond, length, refl, take, drop}
use Rattle.std.proofs.Common.{append_assoc, arith, ap, sym, ◌∙◌, subst, length-append, take-append-drop}
use Rattle.std.proofs.lemmas.List.{append-nil, take-take, take_at}
use Rattle.std.proofs.lemmas.List.Concat.{flat_map-append}
use Rattle.std.proofs.lemmas.List.Elements.{Contains-append_cases, Contains-append_left, Contains-append_right, filter-append}
use Rattle.std.specs.Prelude.{Contains, Result, Ok, filter, flat_map}
use Rattle.sdr_base.specs.Cells.{TouchesWithin}
use Rattle.sdr_base.specs.Transaction.{Transaction}
use Rattle.sdr_base.specs.declared.account.Acct.{Acct}
use Rattle.sdr_base.specs.declared.stop.Stop.{Stop}
use Rattle.sdr_base.proofs.WithinLemmas.{within_more, within_none, within_then}
use Rattle.sdr_model.specs.declared.accounts.Ticket.{Ticket}
use Rattle.zco_acct.specs.Tickets.{grant_lines}
use Rattle.zco_acct.specs.Words.{occupied_lines}
use Rattle.zco_space.specs.Served.{serving_lines, waiting_tickets}

-- the lines of a ticket's grant
abbrev lines_for : Ticket → List ℕ
lines_for t = grant_lines t.block

-- one ticket alone
flat_last : (t : Ticket) → flat_map lines_for (t ∷ []) ≡ grant_lines t.block
flat_last t = append-nil (grant_lines t.block)

-- the lines of some grants are among those of more
pub serving_front : (acct : Acct) (first others : List Ticket) (line : ℕ) → Contains (serving_lines acct first) line →
    Contains (serving_lines acct (first ++ others)) line
serving_front acct [] others line has = absurd (let lt = has.1 in omega (arith, lt))
serving_front acct (t ∷ first) others line has =
    let split : occupied_lines acct ++ flat_map lines_for (t ∷ (first ++ others))
    ≡ (occupied_lines acct ++ flat_map lines_for (t ∷ first)) ++ flat_map lines_for others =
    ap (λ (l : List ℕ). occupied_lines acct ++ l) (flat_map-append lines_for (t ∷ first) others)
    ∙ sym (append_assoc (occupied_lines acct) (flat_map lines_for (t ∷ first)) (flat_map lines_for others)) in
    subst (λ (l : List ℕ). Contains l line) (sym split)
    (Contains-append_left (occupied_lines acct ++ flat_map lines_for (t ∷ first)) (flat_map lines_for others) line has)

some_lines : (acct : Acct) (first : List Ticket) (t : Ticket) →
    serving_lines acct (first ++ t ∷ []) ≡ occupied_lines acct ++ flat_map lines_for (first ++ t ∷ [])
some_lines acct [] t = refl
some_lines acct (u ∷ first) t = refl

-- those of the last grant are among those of all
serving_last : (acct : Acct) (first : List Ticket) (t : Ticket) (line : ℕ) → Contains (grant_lines t.block ++ occupied_lines acct) line →
    Contains (serving_lines acct (first ++ t ∷ [])) line
serving_last acct first t line has =
    let all = flat_map lines_for (first ++ t ∷ []) in
    let split : all ≡ flat_map lines_for first ++ grant_lines t.block =
    flat_map-append lines_for first (t ∷ []) ∙ ap (λ (l : List ℕ). flat_map lines_for first ++ l) (flat_last t) in
    subst (λ (l : List ℕ). Contains l line) (sym (some_lines acct first t))
    (elim (Contains-append_cases (grant_lines t.block) (occupied_lines acct) line has) [
      | inl here ↦
          Contains-append_right (occupied_lines acct) all line
          (subst (λ (l : List ℕ). Contains l line) (sym split)
          (Contains-append_right (flat_map lines_for first) (grant_lines t.block) line here))
      | inr here ↦ Contains-append_left (occupied_lines acct) all line here
    ])

-- the lines of the first so many grants are among those of the first so many or more
pub serving_upto : {T : Type 0} (acct : Acct) (few more : ℕ) (tickets : List Ticket) {a b : Transaction} {r : Result T Stop} → few ≤ more →
    TouchesWithin (serving_lines acct (take few tickets)) a b r → TouchesWithin (serving_lines acct (take more tickets)) a b r
serving_upto {T} acct few more tickets {a} {b} {r} le t =
    let whole : take few tickets ++ drop few (take more tickets) ≡ take more tickets =
    ap (λ (l : List Ticket). l ++ drop few (take more tickets)) (sym (take-take few more tickets le))
    ∙ take-append-drop few (take more tickets) in
    within_more (serving_lines acct (take more tickets))
    (λ line has. subst (λ (l : List Ticket). Contains (serving_lines acct l) line) whole
    (serving_front acct (take few tickets) (drop few (take more tickets)) line has)) t

-- a grant behind others, with a call between that touches no line
pub grants_then : {T U : Type 0} (acct : Acct) (first : List Ticket) (t : Ticket) {a b c d : Transaction} {v : U} {r : Result T Stop} →
    TouchesWithin (serving_lines acct first) a b (Ok v) → c.touched ≡ b.touched →
    TouchesWithin (grant_lines t.block ++ occupied_lines acct) c d r → TouchesWithin (serving_lines acct (first ++ t ∷ [])) a d r
grants_then {T} {U} acct first t {a} {b} {c} {d} {v} {r} before same grant =
    let looked : TouchesWithin [] b c (Ok v) = within_none [] (Ok v) same in
    within_more (serving_lines acct (first ++ t ∷ []))
    (λ line has. elim (Contains-append_cases (serving_lines acct first) ([] ++ (grant_lines t.block ++ occupied_lines acct)) line has) [
      | inl was ↦ serving_front acct first (t ∷ []) line was
      | inr new ↦ serving_last acct first t line new
    ])
    (within_then before (within_then looked grant))

-- the same, where more tickets are these and the granted one
pub grants_next : {T U : Type 0} (acct : Acct) (first more : List Ticket) (t : Ticket) {a b c d : Transaction} {v : U} {r : Result T Stop} →
    more ≡ first ++ t ∷ [] → TouchesWithin (serving_lines acct first) a b (Ok v) → c.touched ≡ b.touched →
    TouchesWithin (grant_lines t.block ++ occupied_lines acct) c d r → TouchesWithin (serving_lines acct more) a d r
grants_next {T} {U} acct first more t {a} {b} {c} {d} {v} {r} is before same grant =
    subst (λ (l : List Ticket). TouchesWithin {T = T} (serving_lines acct l) a d r) (sym is)
    (grants_then acct first t before same grant)

-- so is a call that touches no line
pub serves_same : {T U : Type 0} {own : List ℕ} {a b c : Transaction} {v : U} (r : Result T Stop) → TouchesWithin own a b (Ok v) →
    c.touched ≡ b.touched → TouchesWithin own a c r
serves_same {T} {U} {own} {a} {b} {c} {v} r before same =
    subst (λ (l : List ℕ). TouchesWithin l a c r) (append-nil own) (within_then before (within_none [] r same))

-- the first so many tickets that wait, where so many of the passed ones waited
waiting_taken : (passed left : List Ticket) (count : ℕ) → length (waiting_tickets passed) ≡ count →
    take count (waiting_tickets (passed ++ left)) ≡ waiting_tickets passed
waiting_taken passed left count long =
    ap (take count) (filter-append (λ (t : Ticket). not t.granted) passed left)
    ∙ take_at (waiting_tickets passed) (waiting_tickets left) count long

waits_first : (t : Ticket) (behind : List Ticket) → t.granted ≡ false → waiting_tickets (t ∷ behind) ≡ t ∷ waiting_tickets behind
waits_first t behind waits =
    ap (λ (b : Bool). cond (not b) (t ∷ waiting_tickets behind) (waiting_tickets behind)) waits

passed_first : (t : Ticket) (behind : List Ticket) → t.granted ≡ true → waiting_tickets (t ∷ behind) ≡ waiting_tickets behind
passed_first t behind granted =
    ap (λ (b : Bool). cond (not b) (t ∷ waiting_tickets behind) (waiting_tickets behind)) granted

-- a granted ticket that is passed doesn't wait
pub waited_passed : (passed : List Ticket) (t : Ticket) (count : ℕ) → t.granted ≡ true → length (waiting_tickets passed) ≡ count →
    length (waiting_tickets (passed ++ t ∷ [])) ≡ count
waited_passed passed t count granted long =
    let both = filter-append (λ (t : Ticket). not t.granted) passed (t ∷ []) ∙ ap (λ (l : List Ticket). waiting_tickets passed ++ l) (passed_first t [] granted) in
    ap length (both ∙ append-nil (waiting_tickets passed)) ∙ long

-- one that waits does
pub waited_more : (passed : List Ticket) (t : Ticket) (count : ℕ) → t.granted ≡ false → length (waiting_tickets passed) ≡ count →
    length (waiting_tickets (passed ++ t ∷ [])) ≡ count + 1
waited_more passed t count waits long =
    let both = ap length (filter-append (λ (t : Ticket). not t.granted) passed (t ∷ []) ∙ ap (λ (l : List Ticket). waiting_tickets passed ++ l) (waits_first t [] waits)) in
    let sum = length-append (waiting_tickets passed) (t ∷ []) in
    omega (arith, both, sum, long)

-- the next ticket that waits
pub waiting_next : (passed : List Ticket) (t : Ticket) (behind : List Ticket) (count : ℕ) → t.granted ≡ false →
    length (waiting_tickets passed) ≡ count →
    take (count + 1) (waiting_tickets (passed ++ (t ∷ behind))) ≡ take count (waiting_tickets (passed ++ (t ∷ behind))) ++ t ∷ []
waiting_next passed t behind count waits long =
    let alone : waiting_tickets (passed ++ t ∷ []) ≡ waiting_tickets passed ++ t ∷ [] =
    filter-append (λ (t : Ticket). not t.granted) passed (t ∷ []) ∙ ap (λ (l : List Ticket). waiting_tickets passed ++ l) (waits_first t [] waits) in
    ap (λ (l : List Ticket). take (count + 1) (waiting_tickets l)) (sym (append_assoc passed (t ∷ []) behind))
    ∙ waiting_taken (passed ++ t ∷ []) behind (count + 1) (waited_more passed t count waits long)
    ∙ alone
    ∙ ap (λ (l : List Ticket). l ++ t ∷ []) (sym (waiting_taken passed (t ∷ behind) count long))
