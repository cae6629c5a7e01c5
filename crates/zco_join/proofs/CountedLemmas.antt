-- Sources that count more extents, as objects name them.
use Rattle.std.proofs.Common.{◌≡◌, ◌+◌, ◌≤◌, ◌<◌, ◌^◌, ℕ, Bool, true, false, cond, eqb, List, [], ◌∷◌, ◌++◌, length, Some, refl, sym, subst, arith}
use Rattle.std.specs.Prelude.{◌==◌, All, map, if◌then◌else◌}
use Rattle.std.proofs.lemmas.List.Elements.{All-cons, All-head, All-nil, All-tail}
use Rattle.std.proofs.lemmas.List.Sums.{sum_by-cons}
use Rattle.sdr_base.specs.ZcoObjects.{ExtentRow}
use Rattle.sdr_base.specs.declared.account.Acct.{Acct}
use Rattle.sdr_base.specs.declared.account.Acct.TheVariants as accts
use Rattle.sdr_model.specs.Accounts.{is_same_account}
use Rattle.sdr_model.specs.Limits.{longest_source}
use Rattle.zco_obj.specs.Gone.{NamedSource, naming, source_at}
use Rattle.zco_obj.specs.Uses.{AreNamed, CountsUses, IsThere}
use Rattle.zco_obj.specs.declared.extent.ExtentPiece.{ExtentPiece}
use Rattle.zco_obj.proofs.CountLemmas.{names, naming-append}
use Rattle.zco_ref.specs.Kept.{CountedSource, SourceFits, count_in}
use Rattle.zco_part.specs.Pieces.{extents_at}
use Rattle.zco_part.specs.Sources.{MayCount, all_counted, counted, more_uses, pieces_of}
use Rattle.zco_join.proofs.SourceLemmas.{more_fits, of_most}
use Rattle.zco_join.specs.Stocks.{CountsMore}

-- so many extents more may be counted
pub may_count : (n : ℕ) (s : NamedSource) → SourceFits s.source → CountsMore n s → MayCount s
may_count n s f c = record {
  fits = f;
  inbound = let i = c.inbound in omega (arith, i);
  outbound = let o = c.outbound in omega (arith, o);
}

-- where these are counted, as many fewer may be counted more
pub counts_less : (acct : Acct) (ps : List ExtentPiece) (n m : ℕ) (s : NamedSource) → length ps + m ≤ n → CountsMore n s → CountsMore m (counted acct ps s)
counts_less accts.Inbound ps n m s le c =
    let most = of_most s.addr ps in
    record { inbound = let i = c.inbound in omega (arith, i, most, le); outbound = let o = c.outbound in omega (arith, o, le) }
counts_less accts.Outbound ps n m s le c =
    let most = of_most s.addr ps in
    record { inbound = let i = c.inbound in omega (arith, i, le); outbound = let o = c.outbound in omega (arith, o, most, le) }

pub all_less : (acct : Acct) (ps : List ExtentPiece) (n m : ℕ) (ss : List NamedSource) → length ps + m ≤ n → All (CountsMore n) ss →
    All (CountsMore m) (all_counted acct ps ss)
all_less acct ps n m [] le all = All-nil (CountsMore m)
all_less acct ps n m (s ∷ ss) le all =
    All-cons (CountsMore m) (counted acct ps s) (all_counted acct ps ss) (counts_less acct ps n m s le (All-head (CountsMore n) s ss all))
    (all_less acct ps n m ss le (All-tail (CountsMore n) s ss all))

-- a source is there still
pub there_still : (acct : Acct) (ps : List ExtentPiece) (addr : ℕ) (ss : List NamedSource) → IsThere (source_at addr ss) →
    IsThere (source_at addr (all_counted acct ps ss))
there_still acct ps addr [] t = t
there_still acct ps addr (s ∷ ss) t =
    by (eqb s.addr addr) (there_still acct ps addr ss) t
  where
    by : (b : Bool) → (IsThere (source_at addr ss) → IsThere (source_at addr (all_counted acct ps ss))) →
        IsThere (cond b (Some s) (source_at addr ss)) → IsThere (cond b (Some (counted acct ps s)) (source_at addr (all_counted acct ps ss)))
    by true others h = h
    by false others h = others h

-- what holds of more where it holds of some and of others
pub all_joined : {X : Type 0} (P : X → Type 0) (xs ys : List X) → All P xs → All P ys → All P (xs ++ ys)
all_joined P [] ys a b = b
all_joined P (x ∷ xs) ys a b = All-cons P x (xs ++ ys) (All-head P x xs a) (all_joined P xs ys (All-tail P x xs a) b)

pub all_front : {X : Type 0} (P : X → Type 0) (xs ys : List X) → All P (xs ++ ys) → All P xs
all_front P [] ys all = All-nil P
all_front P (x ∷ xs) ys all = All-cons P x xs (All-head P x (xs ++ ys) all) (all_front P xs ys (All-tail P x (xs ++ ys) all))

pub all_behind : {X : Type 0} (P : X → Type 0) (xs ys : List X) → All P (xs ++ ys) → All P ys
all_behind P [] ys all = all
all_behind P (x ∷ xs) ys all = all_behind P xs ys (All-tail P x (xs ++ ys) all)

pub all_mapped : {X Y : Type 0} (P : X → Type 0) (Q : Y → Type 0) (f : X → Y) → ((x : X) → P x → Q (f x)) → (xs : List X) → All P xs → All Q (map f xs)
all_mapped P Q f on [] all = All-nil Q
all_mapped P Q f on (x ∷ xs) all = All-cons Q (f x) (map f xs) (on x (All-head P x xs all)) (all_mapped P Q f on xs (All-tail P x xs all))

-- extents of pieces name as often as there are pieces
pub naming_placed : (addr : ℕ) (addrs : List ℕ) (ps : List ExtentPiece) → length addrs ≡ length ps → naming addr (extents_at addrs ps) ≡ pieces_of addr ps
naming_placed addr [] [] e = refl
naming_placed addr [] (p ∷ ps) e = absurd (omega (arith, e))
naming_placed addr (a ∷ as') [] e = absurd (omega (arith, e))
naming_placed addr (a ∷ as') (p ∷ ps) e =
    let ih = naming_placed addr as' ps (omega (arith, e)) in
    let c = sum_by-cons (names addr) (record { addr = a; source = p.of; offset = p.offset; length = p.bytes }) (extents_at as' ps) in
    let d = sum_by-cons (λ (q : ExtentPiece). if q.of == addr then 1 else 0) p ps in
    omega (arith, ih, c, d)

there_placed : (ss : List NamedSource) (addrs : List ℕ) (ps : List ExtentPiece) → All (λ p. IsThere (source_at p.of ss)) ps →
    All (λ e. IsThere (source_at e.source ss)) (extents_at addrs ps)
there_placed ss [] ps all = All-nil (λ (e : ExtentRow). IsThere (source_at e.source ss))
there_placed ss (a ∷ as') [] all = All-nil (λ (e : ExtentRow). IsThere (source_at e.source ss))
there_placed ss (a ∷ as') (p ∷ ps) all =
    let P : ExtentPiece → Type 0 = λ q. IsThere (source_at q.of ss) in
    All-cons (λ (e : ExtentRow). IsThere (source_at e.source ss)) (record { addr = a; source = p.of; offset = p.offset; length = p.bytes }) (extents_at as' ps)
    (All-head P p ps all) (there_placed ss as' ps (All-tail P p ps all))

pub all_there_still : (acct : Acct) (ps : List ExtentPiece) (ss : List NamedSource) (es : List ExtentRow) → All (λ e. IsThere (source_at e.source ss)) es →
    All (λ e. IsThere (source_at e.source (all_counted acct ps ss))) es
all_there_still acct ps ss [] all = All-nil (λ (e : ExtentRow). IsThere (source_at e.source (all_counted acct ps ss)))
all_there_still acct ps ss (e ∷ es) all =
    let P : ExtentRow → Type 0 = λ x. IsThere (source_at x.source ss) in
    All-cons (λ (x : ExtentRow). IsThere (source_at x.source (all_counted acct ps ss))) e es
    (there_still acct ps e.source ss (All-head P e es all)) (all_there_still acct ps ss es (All-tail P e es all))

-- Extents of pieces come to an account.
module _ (acct : Acct) (addrs : List ℕ) (ps : List ExtentPiece) (each : length addrs ≡ length ps) (few : length ps < 2 ^ 22) where
  -- those of another account stay as they are
  abbrev pub with_placed : Acct → List ExtentRow → List ExtentRow
  with_placed other es = (if is_same_account acct other then extents_at addrs ps else []) ++ es

  count_one : (other : Acct) (es : List ExtentRow) (s : NamedSource) → CountsMore (length ps) s → CountsUses other es s →
      CountsUses other (with_placed other es) (counted acct ps s)
  count_one other es s c u = record {
    fits = more_fits acct (pieces_of s.addr ps) s (may_count (length ps) s u.fits c) (let m = of_most s.addr ps in omega (arith, m, few));
    short = subst (λ n. n ≤ longest_source) (sym (row_same acct (pieces_of s.addr ps) s.source)) u.short;
    enough = by acct other u.enough;
  }
    where
      row_same : (a : Acct) (n : ℕ) (t : CountedSource) → (more_uses a n t).row.length ≡ t.row.length
      row_same accts.Inbound n t = refl
      row_same accts.Outbound n t = refl

      by : (a b : Acct) → naming s.addr es ≤ count_in b s.source →
          naming s.addr ((if is_same_account a b then extents_at addrs ps else []) ++ es) ≤ count_in b (more_uses a (pieces_of s.addr ps) s.source)
      by accts.Inbound accts.Inbound h =
          let n = naming_placed s.addr addrs ps each in let a = naming-append s.addr (extents_at addrs ps) es in omega (arith, h, n, a)
      by accts.Outbound accts.Outbound h =
          let n = naming_placed s.addr addrs ps each in let a = naming-append s.addr (extents_at addrs ps) es in omega (arith, h, n, a)
      by accts.Inbound accts.Outbound h = h
      by accts.Outbound accts.Inbound h = h

  count_all : (other : Acct) (es : List ExtentRow) (ss : List NamedSource) → All (CountsMore (length ps)) ss → All (CountsUses other es) ss →
      All (CountsUses other (with_placed other es)) (all_counted acct ps ss)
  count_all other es [] c u = All-nil (CountsUses other (with_placed other es))
  count_all other es (s ∷ ss) c u =
      All-cons (CountsUses other (with_placed other es)) (counted acct ps s) (all_counted acct ps ss)
      (count_one other es s (All-head (CountsMore (length ps)) s ss c) (All-head (CountsUses other es) s ss u))
      (count_all other es ss (All-tail (CountsMore (length ps)) s ss c) (All-tail (CountsUses other es) s ss u))

  -- all extents name the sources then, and those count them
  pub named_placed : (other : Acct) (es : List ExtentRow) (ss : List NamedSource) → All (CountsMore (length ps)) ss →
      All (λ p. IsThere (source_at p.of ss)) ps → AreNamed other es ss → AreNamed other (with_placed other es) (all_counted acct ps ss)
  named_placed other es ss c t n = record {
    there =
        let P : ExtentRow → Type 0 = λ e. IsThere (source_at e.source (all_counted acct ps ss)) in
        by P (is_same_account acct other) (all_there_still acct ps ss (extents_at addrs ps) (there_placed ss addrs ps t)) (all_there_still acct ps ss es n.there);
    counted = count_all other es ss c n.counted;
  }
    where
      by : (P : ExtentRow → Type 0) (b : Bool) → All P (extents_at addrs ps) → All P es → All P ((if b then extents_at addrs ps else []) ++ es)
      by P true own all = all_joined P (extents_at addrs ps) es own all
      by P false own all = all
