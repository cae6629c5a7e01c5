-- Where a daemon's transaction stands among others.
use Rattle.std.proofs.Common.{◌≡◌, ◌∙◌, ◌==◌, ◌+◌, ◌<◌, ℕ, List, [], ◌∷◌, ◌++◌, Bool, true, false, not, cond, length, Option, None, Some, MatchOption, Result, Ok, Err, OnOk, refl, sym, ap, subst, find, arith, length-append, append-nil}
use Rattle.std.specs.List.{filter, flat_map, position_from, remove}
use Rattle.std.specs.Prelude.{if◌then◌else◌, position, slice_index_or, slice_set, ⊤}
use Rattle.std.proofs.lemmas.Iterator.Adapters.{position_from-zero}
use Rattle.sdr_model.specs.declared.journal.Said.{Said}
use Rattle.sdr_machine.specs.Core.{Work, said_by, with_said, without_work}
use Rattle.sdr_core.proofs.SpokenLemmas.{said_by-none, without_work-none}
use Rattle.sdr_core.specs.Keeping.{AreApart, AreSpacious, HasSpace, MaySay, StandsAt, is_of, spoken_of, work_of, works_of}
use Rattle.std.proofs.Math.Seq.{get_or-append_seam, set-append_seam}
use Rattle.sdr_core.specs.declared.spoken.Spoken.{Spoken}
use Rattle.sdr_machine.proofs.RollLemmas.{same_number}

abbrev is_his : ℕ → Spoken → Bool
is_his daemon s = s.daemon == daemon

-- counted from some place on
record StandsFrom (spoken : List Spoken) (daemon from place : ℕ) : Type 0 where
  front : List Spoken
  own : Spoken
  rest : List Spoken
  whole : spoken ≡ front ++ own ∷ rest
  place_is : place ≡ from + length front
  here : (own.daemon == daemon) ≡ true
  none : spoken_of front daemon ≡ None

stands_from : (daemon : ℕ) (spoken : List Spoken) (from place : ℕ) → position_from (is_his daemon) from spoken ≡ Some place → StandsFrom spoken daemon from place
stands_from daemon [] from place e = absurd cc
stands_from daemon (s ∷ spoken) from place e = by (s.daemon == daemon) refl e (stands_from daemon spoken (from + 1) place)
  where
    by : (b : Bool) → (s.daemon == daemon) ≡ b → cond b (Some from) (position_from (is_his daemon) (from + 1) spoken) ≡ Some place
        → (position_from (is_his daemon) (from + 1) spoken ≡ Some place → StandsFrom spoken daemon (from + 1) place) → StandsFrom (s ∷ spoken) daemon from place
    by true h first more = let same : from ≡ place = cc in record { front = []; own = s; rest = spoken; whole = refl; place_is = omega arith; here = h; none = refl }
    by false h later more =
        let r = more later in record {
          front = s ∷ r.front;
          own = r.own;
          rest = r.rest;
          whole = ap (λ xs. s ∷ xs) r.whole;
          place_is = let there = r.place_is in omega arith;
          here = r.here;
          none = ap (λ b. cond b (Some s) (spoken_of r.front daemon)) h ∙ r.none;
        }

none_from : (daemon : ℕ) (spoken : List Spoken) (from : ℕ) → position_from (is_his daemon) from spoken ≡ None → spoken_of spoken daemon ≡ None
none_from daemon [] from e = refl
none_from daemon (s ∷ spoken) from e = by (s.daemon == daemon) refl e (none_from daemon spoken (from + 1))
  where
    by : (b : Bool) → (s.daemon == daemon) ≡ b → cond b (Some from) (position_from (is_his daemon) (from + 1) spoken) ≡ None
        → (position_from (is_his daemon) (from + 1) spoken ≡ None → spoken_of spoken daemon ≡ None) → spoken_of (s ∷ spoken) daemon ≡ None
    by true h first more = absurd cc
    by false h later more = ap (λ b. cond b (Some s) (spoken_of spoken daemon)) h ∙ more later

-- what a search for the daemon's place finds
pub found_place : (spoken : List Spoken) (daemon : ℕ) (o : Option ℕ) → o ≡ position (λ (s : Spoken). s.daemon == daemon) spoken
    → MatchOption o (spoken_of spoken daemon ≡ None) (λ place. StandsAt spoken daemon place)
found_place spoken daemon None e = none_from daemon spoken 0 (sym (position_from-zero (is_his daemon) spoken) ∙ sym e)
found_place spoken daemon (Some place) e =
    let r = stands_from daemon spoken 0 place (sym (position_from-zero (is_his daemon) spoken) ∙ sym e) in
    record { front = r.front; own = r.own; rest = r.rest; whole = r.whole; place_is = let there = r.place_is in omega arith; here = r.here; none = r.none }

-- it is found
pub found_own : (front : List Spoken) (own : Spoken) (rest : List Spoken) (daemon : ℕ) → spoken_of front daemon ≡ None → (own.daemon == daemon) ≡ true → spoken_of (front ++ own ∷ rest) daemon ≡ Some own
found_own [] own rest daemon none here = ap (λ b. cond b (Some own) (spoken_of rest daemon)) here
found_own (s ∷ front) own rest daemon none here =
    let h = found_one (s.daemon == daemon) s (spoken_of front daemon) none in
    ap (λ b. cond b (Some s) (spoken_of (front ++ own ∷ rest) daemon)) h.0 ∙ found_own front own rest daemon h.1 here
  where
    found_one : (b : Bool) (s : Spoken) (rest : Option Spoken) → cond b (Some s) rest ≡ None → (b ≡ false) × (rest ≡ None)
    found_one true s rest none = absurd cc
    found_one false s rest none = (refl, none)

-- a daemon that has said nothing is in none of the open transactions
pub none_works : (spoken : List Spoken) (daemon : ℕ) → spoken_of spoken daemon ≡ None → find (is_of daemon) (works_of spoken) ≡ None
none_works [] daemon none = refl
none_works (s ∷ spoken) daemon none = by (s.daemon == daemon) refl none (none_works spoken daemon)
  where
    by : (b : Bool) → (s.daemon == daemon) ≡ b → cond b (Some s) (spoken_of spoken daemon) ≡ None
        → (spoken_of spoken daemon ≡ None → find (is_of daemon) (works_of spoken) ≡ None) → find (is_of daemon) (works_of (s ∷ spoken)) ≡ None
    by true h first more = absurd cc
    by false h later more = ap (λ b. cond b (Some (work_of s)) (find (is_of daemon) (works_of spoken))) h ∙ more later

-- the same transactions, where one is replaced by one that looks the same
pub works_same : (front : List Spoken) (own own' : Spoken) (rest : List Spoken) → work_of own' ≡ work_of own → works_of (front ++ own' ∷ rest) ≡ works_of (front ++ own ∷ rest)
works_same [] own own' rest same = ap (λ w. w ∷ works_of rest) same
works_same (s ∷ front) own own' rest same = ap (λ ws. work_of s ∷ ws) (works_same front own own' rest same)

-- the daemon has said more
pub works_said : (front : List Spoken) (own own' : Spoken) (rest : List Spoken) (daemon : ℕ) (said : Said) → spoken_of front daemon ≡ None → (own.daemon == daemon) ≡ true
    → work_of own' ≡ record { daemon = own.daemon; said = own.said.items ++ said ∷ [] } → works_of (front ++ own' ∷ rest) ≡ with_said (works_of (front ++ own ∷ rest)) daemon said
works_said [] own own' rest daemon said none here is =
    ap (λ w. w ∷ works_of rest) is
    ∙ sym (ap (λ b. if b then record { daemon = own.daemon; said = own.said.items ++ said ∷ [] } ∷ works_of rest else work_of own ∷ with_said (works_of rest) daemon said) here)
works_said (s ∷ front) own own' rest daemon said none here is = by (s.daemon == daemon) refl none (λ later. works_said front own own' rest daemon said later here is)
  where
    by : (b : Bool) → (s.daemon == daemon) ≡ b → cond b (Some s) (spoken_of front daemon) ≡ None
        → (spoken_of front daemon ≡ None → works_of (front ++ own' ∷ rest) ≡ with_said (works_of (front ++ own ∷ rest)) daemon said) → works_of ((s ∷ front) ++ own' ∷ rest) ≡ with_said (works_of ((s ∷ front) ++ own ∷ rest)) daemon said
    by true h first more = absurd cc
    by false h later more =
        ap (λ ws. work_of s ∷ ws) (more later)
        ∙ sym (ap (λ b. if b then record { daemon = s.daemon; said = s.said.items ++ said ∷ [] } ∷ works_of (front ++ own ∷ rest)
        else work_of s ∷ with_said (works_of (front ++ own ∷ rest)) daemon said) h)

-- without the daemon's transaction
pub works_without : (front : List Spoken) (own : Spoken) (rest : List Spoken) (daemon : ℕ) → spoken_of front daemon ≡ None → (own.daemon == daemon) ≡ true
    → AreApart (works_of (front ++ own ∷ rest)) → works_of (front ++ rest) ≡ without_work (works_of (front ++ own ∷ rest)) daemon
works_without [] own rest daemon none here apart =
    let is_none : find (is_of daemon) (works_of rest) ≡ None = subst (λ n. find (is_of n) (works_of rest) ≡ None) (same_number own.daemon daemon here) apart.0 in
    sym (without_work-none (works_of rest) daemon is_none)
    ∙ sym (ap (λ b. cond (not b) (work_of own ∷ without_work (works_of rest) daemon) (without_work (works_of rest) daemon)) here)
works_without (s ∷ front) own rest daemon none here apart = by (s.daemon == daemon) refl none (λ later. works_without front own rest daemon later here apart.1)
  where
    by : (b : Bool) → (s.daemon == daemon) ≡ b → cond b (Some s) (spoken_of front daemon) ≡ None
        → (spoken_of front daemon ≡ None → works_of (front ++ rest) ≡ without_work (works_of (front ++ own ∷ rest)) daemon) → works_of ((s ∷ front) ++ rest) ≡ without_work (works_of ((s ∷ front) ++ own ∷ rest)) daemon
    by true h first more = absurd cc
    by false h later more =
        ap (λ ws. work_of s ∷ ws) (more later)
        ∙ sym (ap (λ b. cond (not b) (work_of s ∷ without_work (works_of (front ++ own ∷ rest)) daemon) (without_work (works_of (front ++ own ∷ rest)) daemon)) h)

-- all that the daemon has said
pub said_own : (front : List Spoken) (own : Spoken) (rest : List Spoken) (daemon : ℕ) → spoken_of front daemon ≡ None → (own.daemon == daemon) ≡ true
    → AreApart (works_of (front ++ own ∷ rest)) → own.said.items ≡ said_by (works_of (front ++ own ∷ rest)) daemon
said_own [] own rest daemon none here apart =
    let is_none : find (is_of daemon) (works_of rest) ≡ None = subst (λ n. find (is_of n) (works_of rest) ≡ None) (same_number own.daemon daemon here) apart.0 in
    sym (append-nil own.said.items) ∙ ap (λ more. own.said.items ++ more) (sym (said_by-none (works_of rest) daemon is_none))
    ∙ sym (ap (λ b. flat_map (λ (x : Work). x.said) (cond b (work_of own ∷ filter (is_of daemon) (works_of rest)) (filter (is_of daemon) (works_of rest)))) here)
said_own (s ∷ front) own rest daemon none here apart = by (s.daemon == daemon) refl none (λ later. said_own front own rest daemon later here apart.1)
  where
    by : (b : Bool) → (s.daemon == daemon) ≡ b → cond b (Some s) (spoken_of front daemon) ≡ None
        → (spoken_of front daemon ≡ None → own.said.items ≡ said_by (works_of (front ++ own ∷ rest)) daemon) → own.said.items ≡ said_by (works_of ((s ∷ front) ++ own ∷ rest)) daemon
    by true h first more = absurd cc
    by false h later more =
        more later
        ∙ sym (ap (λ b. flat_map (λ (x : Work). x.said) (cond b (work_of s ∷ filter (is_of daemon) (works_of (front ++ own ∷ rest))) (filter (is_of daemon) (works_of (front ++ own ∷ rest))))) h)

-- the one that stands at the place
pub own_at : (spoken : List Spoken) (daemon place : ℕ) (x : Spoken) (at : StandsAt spoken daemon place) → x ≡ slice_index_or spoken place x → x ≡ at.own
own_at spoken daemon place x at is =
    is ∙ (λ i. slice_index_or (at.whole i) (at.place_is i) x) ∙ get_or-append_seam at.front at.own at.rest x

-- the others with another in its place
set_at : (spoken : List Spoken) (daemon place : ℕ) (x : Spoken) (at : StandsAt spoken daemon place) → slice_set spoken place x ≡ at.front ++ x ∷ at.rest
set_at spoken daemon place x at = (λ i. slice_set (at.whole i) (at.place_is i) x) ∙ set-append_seam at.front at.own at.rest x

-- what has room among these
all_with : (front : List Spoken) (own own' : Spoken) (rest : List Spoken) → AreSpacious (front ++ own ∷ rest) → HasSpace 1 own' → AreSpacious (front ++ own' ∷ rest)
all_with [] own own' rest all has = (has, all.1)
all_with (s ∷ front) own own' rest all has = (all.0, all_with front own own' rest all.1 has)

all_without : (front : List Spoken) (own : Spoken) (rest : List Spoken) → AreSpacious (front ++ own ∷ rest) → HasSpace 1 own × AreSpacious (front ++ rest)
all_without [] own rest all = all
all_without (s ∷ front) own rest all = let more = all_without front own rest all.1 in (more.0, (all.0, more.1))

pub push_spacious : (spoken : List Spoken) (s : Spoken) → AreSpacious spoken → HasSpace 1 s → AreSpacious (spoken ++ s ∷ [])
push_spacious [] s all has = (has, tt)
push_spacious (x ∷ spoken) s all has = (all.0, push_spacious spoken s all.1 has)

removed : (front : List Spoken) (own : Spoken) (rest : List Spoken) → remove (front ++ own ∷ rest) (length front) ≡ front ++ rest
removed [] own rest = refl
removed (s ∷ front) own rest = ap (λ xs. s ∷ xs) (removed front own rest)

module _ (spoken : List Spoken) (daemon place : ℕ) (x : Spoken) (at : StandsAt spoken daemon place) (is : x ≡ slice_index_or spoken place x) where
  -- a transaction for which memory was taken looks the same
  pub reserved_same : (x' : Spoken) → work_of x' ≡ work_of x → works_of (slice_set spoken place x') ≡ works_of spoken
  reserved_same x' same =
      ap works_of (set_at spoken daemon place x' at)
      ∙ works_same at.front at.own x' at.rest (same ∙ ap work_of (own_at spoken daemon place x at is)) ∙ ap works_of (sym at.whole)

  -- it has room
  pub reserved_has : (n : ℕ) (x' : Spoken) → x'.daemon ≡ x.daemon → HasSpace n x' → MaySay n (slice_set spoken place x') daemon
  reserved_has n x' same has =
      subst (λ o. MatchOption o ⊤ (HasSpace n))
      (sym (ap (λ xs. spoken_of xs daemon) (set_at spoken daemon place x' at)
      ∙ found_own at.front x' at.rest daemon at.none
      (ap (λ n. n == daemon) (same ∙ ap (λ (s : Spoken). s.daemon) (own_at spoken daemon place x at is)) ∙ at.here))) has

  -- it has room to say more
  pub has_space : (n : ℕ) → MaySay n spoken daemon → HasSpace n x
  has_space n may =
      subst (HasSpace n) (sym (own_at spoken daemon place x at is))
      (subst (λ o. MatchOption o ⊤ (HasSpace n)) (ap (λ xs. spoken_of xs daemon) at.whole ∙ found_own at.front at.own at.rest daemon at.none at.here) may)

  -- the daemon has said more in it
  pub said_at : (x' : Spoken) (said : Said) → work_of x' ≡ record { daemon = x.daemon; said = x.said.items ++ said ∷ [] } → works_of (slice_set spoken place x') ≡ with_said (works_of spoken) daemon said
  said_at x' said same =
      ap works_of (set_at spoken daemon place x' at)
      ∙ works_said at.front at.own x' at.rest daemon said at.none at.here
      (same ∙ ap (λ (s : Spoken). record { daemon = s.daemon; said = s.said.items ++ said ∷ [] }) (own_at spoken daemon place x at is))
      ∙ ap (λ xs. with_said (works_of xs) daemon said) (sym at.whole)

  -- it has room for one more where all have, and so have all where another with room is in its place
  pub own_spacious : AreSpacious spoken → HasSpace 1 x
  own_spacious all = subst (HasSpace 1) (sym (own_at spoken daemon place x at is)) (all_without at.front at.own at.rest (subst AreSpacious at.whole all)).0

  pub set_spacious : (x' : Spoken) → AreSpacious spoken → HasSpace 1 x' → AreSpacious (slice_set spoken place x')
  set_spacious x' all has =
      subst AreSpacious (sym (set_at spoken daemon place x' at)) (all_with at.front at.own x' at.rest (subst AreSpacious at.whole all) has)

  pub own_said : AreApart (works_of spoken) → x.said.items ≡ said_by (works_of spoken) daemon
  own_said apart =
      ap (λ (s : Spoken). s.said.items) (own_at spoken daemon place x at is)
      ∙ said_own at.front at.own at.rest daemon at.none at.here (subst (λ xs. AreApart (works_of xs)) at.whole apart)
      ∙ ap (λ xs. said_by (works_of xs) daemon) (sym at.whole)

-- without the one at the place
pub without_at : (spoken : List Spoken) (daemon place : ℕ) (at : StandsAt spoken daemon place) → AreApart (works_of spoken) → works_of (remove spoken place) ≡ without_work (works_of spoken) daemon
without_at spoken daemon place at apart =
    ap works_of ((λ i. remove (at.whole i) (at.place_is i)) ∙ removed at.front at.own at.rest)
    ∙ works_without at.front at.own at.rest daemon at.none at.here (subst (λ xs. AreApart (works_of xs)) at.whole apart)
    ∙ ap (λ xs. without_work (works_of xs) daemon) (sym at.whole)

-- and the others have room still
pub without_spacious : (spoken : List Spoken) (daemon place : ℕ) → StandsAt spoken daemon place → AreSpacious spoken → AreSpacious (remove spoken place)
without_spacious spoken daemon place at all =
    subst AreSpacious (sym ((λ i. remove (at.whole i) (at.place_is i)) ∙ removed at.front at.own at.rest))
    (all_without at.front at.own at.rest (subst AreSpacious at.whole all)).1

-- a place lies within
pub place_within : (spoken : List Spoken) (daemon place : ℕ) → StandsAt spoken daemon place → place < length spoken
place_within spoken daemon place at = let there = at.place_is in omega (arith, ap length at.whole, length-append at.front (at.own ∷ at.rest))

-- what follows where a call was answered well
pub on_ok : {A E : Type 0} (r : Result A E) (P Q : Type 0) → OnOk r P → (P → Q) → OnOk r Q
on_ok (Ok a) P Q is follows = follows is
on_ok (Err e) P Q is follows = tt

-- a daemon that has said nothing may begin to
pub may_begin : (n : ℕ) (spoken : List Spoken) (daemon : ℕ) → spoken_of spoken daemon ≡ None → MaySay n spoken daemon
may_begin n spoken daemon none = subst (λ o. MatchOption o ⊤ (HasSpace n)) (sym none) tt
