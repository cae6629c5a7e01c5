-- What a seat of the table was told, and which numbers its seats drew.
use Rattle.std.proofs.Common.{◌≡◌, ◌≢◌, ⊎_elim, ℕ, ◌+◌, ◌<◌, ◌≤◌, Bool, true, false, List, [], ◌∷◌, ◌++◌, sym, ◌∙◌, ap, arith}
use Rattle.std.specs.Prelude.{All, AllPairs, map, ◌||◌}
use Rattle.std.specs.List.{list_any}
use Rattle.std.proofs.lemmas.List.Folds.{list_any-append}
use Rattle.std.proofs.lemmas.List.Elements.{All-nil, All-cons, All-head, All-tail, All-weaker}
use Rattle.std.proofs.lemmas.List.Kept.{AllPairs-cons}
use Rattle.sdr_turn.specs.declared.known.Known.{Known}
use Rattle.sdr_turn.specs.declared.view.View.{View}
use Rattle.sdr_turn.specs.Entries.{has, Apart, MayAdd}
use Rattle.sdr_turn.specs.Knowing.{Agrees}
use Rattle.sdr_turn.specs.Views.{drew}
use Rattle.sdr_turn.proofs.EntryLemmas.{or-cases, or-left, or-right, or-neither, or-last, has-most, prefix_trans, add-prefix, own-others, made-others}

-- whether the number is in one of these lists
abbrev pub in_any : List (List ℕ) → ℕ → Bool
in_any lists n = list_any (λ numbers. has numbers n) lists

-- who shares no number with any of these is apart from all
pub apart_all : (ms : List ℕ) (lists : List (List ℕ)) → ((n : ℕ) → has ms n ≡ true → in_any lists n ≡ true → ⊥) → All (Apart ms) lists
apart_all ms [] none = All-nil (Apart ms)
apart_all ms (ns ∷ rest) none =
    All-cons (Apart ms) ns rest (λ n hm hn. none n hm (or-left (has ns n) (in_any rest n) hn))
    (apart_all ms rest (λ n hm hr. none n hm (or-right (has ns n) (in_any rest n) hr)))

-- one list is apart from no other
pub apart_one : (ns : List ℕ) → AllPairs Apart (ns ∷ [])
apart_one ns = AllPairs-cons Apart ns [] (All-nil (Apart ns)) (λ i j d lt inside. absurd (omega (arith, inside)))

module _ {E : Type 0} where
  -- what the seat drew itself one of its seats drew
  pub drew-own : (v : View E) (n : ℕ) → has v.knows.numbers n ≡ true → drew v n ≡ true
  drew-own v n h =
      list_any-append (λ ns. has ns n) (map (λ (k : Known E). k.numbers) v.told) (v.knows.numbers ∷ [])
      ∙ or-right (in_any (map (λ (k : Known E). k.numbers) v.told) n) (has v.knows.numbers n || false) (or-left (has v.knows.numbers n) false h)

  -- a seat that none was joined into drew what it drew itself
  pub drew-alone : (v : View E) (n : ℕ) → v.told ≡ [] → drew v n ≡ has v.knows.numbers n
  drew-alone v n alone = ap (λ (ts : List (Known E)). in_any (map (λ k. k.numbers) ts ++ v.knows.numbers ∷ []) n) alone ∙ or-last (has v.knows.numbers n)

  module _ (number maker : E → ℕ) (all : List E) (drawn done : ℕ) where
    drew_most : (told : List (Known E)) (numbers : List ℕ) (n : ℕ) → All (Agrees number maker all drawn done) told → All (λ m. (0 < m) × (m ≤ drawn)) numbers
        → in_any (map (λ k. k.numbers) told ++ numbers ∷ []) n ≡ true → n ≤ drawn
    drew_most [] numbers n told low h = has-most drawn n numbers low (sym (or-last (has numbers n)) ∙ h)
    drew_most (k ∷ ks) numbers n told low h =
        ⊎_elim (λ t. has-most drawn n k.numbers (All-head (Agrees number maker all drawn done) k ks told).numbers t)
        (λ t. drew_most ks numbers n (All-tail (Agrees number maker all drawn done) k ks told) low t)
        (or-cases (has k.numbers n) (in_any (map (λ x. x.numbers) ks ++ numbers ∷ []) n) h)

    -- no seat drew a number that wasn't drawn
    pub drew-most : (v : View E) (n : ℕ) → Agrees number maker all drawn done v.knows → All (Agrees number maker all drawn done) v.told → drew v n ≡ true → n ≤ drawn
    drew-most v n knows told h = drew_most v.told v.knows.numbers n told knows.numbers h

    -- what is known stays so when a number is drawn
    pub agrees-draw : (k : Known E) → Agrees number maker all drawn done k → Agrees number maker all (drawn + 1) done k
    agrees-draw k a = record {
      numbers = All-weaker (λ n. (0 < n) × (n ≤ drawn)) (λ n. (0 < n) × (n ≤ drawn + 1)) (λ n low. (low.0, omega (arith, low.1))) k.numbers a.numbers;
      rise = a.rise;
      front = a.front;
      begins = a.begins;
      mine = a.mine;
      made = a.made;
    }

    -- and when a number is done that isn't the seat's, and an entry added at another place
    module _ (n place : ℕ) (after : List E) (adds : MayAdd number maker n place all after) where
      pub agrees-give : (k : Known E) → has k.numbers n ≡ false → k.place ≢ place → Agrees number maker all drawn done k → Agrees number maker after drawn (done + 1) k
      agrees-give k strange elsewhere a = record {
        numbers = a.numbers;
        rise = a.rise;
        front = omega (arith, a.front);
        begins = prefix_trans k.seen all after a.begins (add-prefix number maker n place all after adds);
        mine = own-others number maker n place all after adds k.numbers strange ∙ a.mine;
        made = made-others number maker n place all after adds k.place elsewhere ∙ a.made;
      }

      told_give : (told : List (Known E)) (numbers : List ℕ) → in_any (map (λ k. k.numbers) told ++ numbers ∷ []) n ≡ false → All (λ k. k.place ≢ place) told
          → All (Agrees number maker all drawn done) told → All (Agrees number maker after drawn (done + 1)) told × (has numbers n ≡ false)
      told_give [] numbers off elsewhere told = (All-nil (Agrees number maker after drawn (done + 1)), sym (or-last (has numbers n)) ∙ off)
      told_give (k ∷ ks) numbers off elsewhere told =
          let both = or-neither (has k.numbers n) (in_any (map (λ x. x.numbers) ks ++ numbers ∷ []) n) off in
          let rest = told_give ks numbers both.1 (All-tail (λ (x : Known E). x.place ≢ place) k ks elsewhere) (All-tail (Agrees number maker all drawn done) k ks told) in
          let first = agrees-give k both.0 (All-head (λ (x : Known E). x.place ≢ place) k ks elsewhere) (All-head (Agrees number maker all drawn done) k ks told) in
          (All-cons (Agrees number maker after drawn (done + 1)) k ks first rest.0, rest.1)

      -- the same of all that a seat was told, and of itself
      pub agree-give : (v : View E) → drew v n ≡ false → v.knows.place ≢ place → All (λ k. k.place ≢ place) v.told → Agrees number maker all drawn done v.knows → All (Agrees number maker all drawn done) v.told
          → Agrees number maker after drawn (done + 1) v.knows × All (Agrees number maker after drawn (done + 1)) v.told
      agree-give v off elsewhere told_elsewhere knows told =
          let given = told_give v.told v.knows.numbers off told_elsewhere told in
          (agrees-give v.knows given.1 elsewhere knows, given.0)
