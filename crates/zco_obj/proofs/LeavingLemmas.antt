-- What an object that goes leaves of the sources that its extents name.
use Rattle.std.proofs.Common.{◌≡◌, ◌+◌, ◌≤◌, ℕ, Bool, List, [], ◌∷◌, ◌++◌, true, false, cond, eqb, Option, Some, refl, sym, ap, ◌∙◌, subst, arith, append_assoc, eq-eqb}
use Rattle.std.specs.Prelude.{◌==◌, ◌&&◌, All, filter, flat_map, map, nat_lt, not, if◌then◌else◌}
use Rattle.std.proofs.lemmas.Bool.{eqb-true, ne_eqb}
use Rattle.std.proofs.lemmas.List.Elements.{All-cons, All-head, All-nil, All-tail}
use Rattle.std.proofs.lemmas.List.Sums.{sum_by-cons}
use Rattle.sdr_base.specs.Blocks.{Blocks}
use Rattle.sdr_base.specs.Entries.{Entries, BlocksAre}
use Rattle.sdr_base.specs.Objects.{Heap}
use Rattle.sdr_base.specs.ZcoObjects.{ExtentRow, ObjectRow, object_entries}
use Rattle.sdr_base.specs.declared.account.Acct.{Acct}
use Rattle.sdr_base.specs.declared.account.Acct.TheVariants as accts
use Rattle.sdr_base.proofs.StandingLemmas.{moved}
use Rattle.sdr_model.specs.Accounts.{is_same_account}
use Rattle.zco_obj.specs.Destroying.{ObjectGone}
use Rattle.zco_obj.specs.Gone.{NamedSource, goes_with, less_source, less_uses, naming, source_at, sources_entries, sources_left}
use Rattle.zco_obj.specs.Leaving.{LeavesSources, raws_left, sources_staying, together}
use Rattle.zco_obj.specs.Uses.{AreNamed, CountsUses, IsThere}
use Rattle.zco_obj.proofs.CountLemmas.{names, naming-append}
use Rattle.zco_obj.proofs.SpotLemmas.{less_fits}
use Rattle.zco_ref.specs.Going.{blocks_left, is_passing}
use Rattle.zco_ref.specs.Kept.{tied_entries, uses_of}

-- the sources that stay of a first one that goes or not, and of others
abbrev staying_if : Acct → List ExtentRow → Bool → NamedSource → List NamedSource → List NamedSource
staying_if acct extents goes s ss =
    let others = filter (λ t. not (goes_with extents t)) ss in map (less_source acct extents) (cond (not goes) (s ∷ others) others)

-- the blocks of the sources that stay, and of what is left of the others, are those that are left of all
module _ (blocks : Blocks) (acct : Acct) (extents : List ExtentRow) where
  abbrev stay : List NamedSource → Entries
  stay ss = sources_entries (sources_staying acct extents ss)

  abbrev raws_if : Bool → NamedSource → List NamedSource → Entries
  raws_if goes s ss =
      let others = filter (goes_with extents) ss in
      flat_map (λ (t : NamedSource). blocks_left t.source.row.medium t.source.row.subject t.bytes) (cond goes (s ∷ others) others)

  abbrev left_if : Bool → NamedSource → Entries
  left_if goes s =
      if goes then blocks_left s.source.row.medium s.source.row.subject s.bytes
      else tied_entries s.addr (less_uses acct (naming s.addr extents) s.source) s.bytes

  -- where the others are so
  stands_if : (goes : Bool) (s : NamedSource) (ss : List NamedSource) →
      ((rest : Entries) → BlocksAre blocks (sources_left acct extents ss ++ rest) → BlocksAre blocks (stay ss ++ (raws_left extents ss ++ rest))) →
      (rest : Entries) → BlocksAre blocks ((left_if goes s ++ sources_left acct extents ss) ++ rest) →
      BlocksAre blocks (sources_entries (staying_if acct extents goes s ss) ++ (raws_if goes s ss ++ rest))
  stands_if true s ss others rest b =
      let R = blocks_left s.source.row.medium s.source.row.subject s.bytes in
      let L = sources_left acct extents ss in
      let A = raws_left extents ss in
      let behind : BlocksAre blocks (L ++ (R ++ rest)) =
      moved R L rest (subst (λ (es : Entries). BlocksAre blocks es) (append_assoc R L rest) b) in
      let before : BlocksAre blocks ((stay ss ++ A) ++ (R ++ rest)) =
      subst (λ (es : Entries). BlocksAre blocks es) (sym (append_assoc (stay ss) A (R ++ rest))) (others (R ++ rest) behind) in
      let first : BlocksAre blocks (R ++ (stay ss ++ (A ++ rest))) =
      subst (λ (es : Entries). BlocksAre blocks (R ++ es)) (append_assoc (stay ss) A rest) (moved (stay ss ++ A) R rest before) in
      subst (λ (es : Entries). BlocksAre blocks (stay ss ++ es)) (sym (append_assoc R A rest)) (moved R (stay ss) (A ++ rest) first)
  stands_if false s ss others rest b =
      let T = tied_entries s.addr (less_uses acct (naming s.addr extents) s.source) s.bytes in
      let L = sources_left acct extents ss in
      let A = raws_left extents ss in
      let behind : BlocksAre blocks (L ++ (T ++ rest)) =
      moved T L rest (subst (λ (es : Entries). BlocksAre blocks es) (append_assoc T L rest) b) in
      let before : BlocksAre blocks ((stay ss ++ A) ++ (T ++ rest)) =
      subst (λ (es : Entries). BlocksAre blocks es) (sym (append_assoc (stay ss) A (T ++ rest))) (others (T ++ rest) behind) in
      let first : BlocksAre blocks (T ++ (stay ss ++ (A ++ rest))) =
      subst (λ (es : Entries). BlocksAre blocks (T ++ es)) (append_assoc (stay ss) A rest) (moved (stay ss ++ A) T rest before) in
      subst (λ (es : Entries). BlocksAre blocks es) (sym (append_assoc T (stay ss) (A ++ rest))) first

  stands_kept : (ss : List NamedSource) (rest : Entries) → BlocksAre blocks (sources_left acct extents ss ++ rest) →
      BlocksAre blocks (stay ss ++ (raws_left extents ss ++ rest))
  stands_kept [] rest b = b
  stands_kept (s ∷ ss) rest b = stands_if (goes_with extents s) s ss (stands_kept ss) rest b

-- more extents of an account name a source than these go, so it doesn't go with them
no_last : (extents : List ExtentRow) (s : NamedSource) → naming s.addr extents + 1 ≤ uses_of s.source → goes_with extents s ≡ false
no_last extents s more =
    let n = naming s.addr extents in
    let no : (uses_of s.source == n) ≡ false = ne_eqb (uses_of s.source) n (λ z. absurd (omega (arith, more, z))) in
    ap (λ v. is_passing s.source.row.medium s.source.row.flagged && (nat_lt 0 n && v)) no
    ∙ and_false (is_passing s.source.row.medium s.source.row.flagged) (nat_lt 0 n)
  where
    and_false : (a b : Bool) → (a && (b && false)) ≡ false
    and_false true true = refl
    and_false true false = refl
    and_false false b = refl

-- the counts of a source of which some extents of an account go
module _ (extents more : List ExtentRow) (s : NamedSource) where
  pub counts_more : (acct other : Acct) → CountsUses other (together acct extents other more) s → CountsUses other more (less_source acct extents s)
  counts_more accts.Inbound accts.Inbound c = record {
    fits = less_fits accts.Inbound (naming s.addr extents) s.source c.fits;
    short = c.short;
    enough = let e = c.enough in let a = naming-append s.addr extents more in omega (arith, e, a);
  }
  counts_more accts.Outbound accts.Outbound c = record {
    fits = less_fits accts.Outbound (naming s.addr extents) s.source c.fits;
    short = c.short;
    enough = let e = c.enough in let a = naming-append s.addr extents more in omega (arith, e, a);
  }
  counts_more accts.Inbound accts.Outbound c = record {
    fits = less_fits accts.Inbound (naming s.addr extents) s.source c.fits;
    short = c.short;
    enough = c.enough;
  }
  counts_more accts.Outbound accts.Inbound c = record {
    fits = less_fits accts.Outbound (naming s.addr extents) s.source c.fits;
    short = c.short;
    enough = c.enough;
  }

  counts_last : (acct other : Acct) → 1 ≤ naming s.addr more → CountsUses acct extents s → CountsUses other (together acct extents other more) s →
      naming s.addr extents + 1 ≤ uses_of s.source
  counts_last accts.Inbound accts.Inbound one a c =
      let e = c.enough in let n = naming-append s.addr extents more in omega (arith, one, e, n)
  counts_last accts.Outbound accts.Outbound one a c =
      let e = c.enough in let n = naming-append s.addr extents more in omega (arith, one, e, n)
  counts_last accts.Inbound accts.Outbound one a c = let e = c.enough in let f = a.enough in omega (arith, one, e, f)
  counts_last accts.Outbound accts.Inbound one a c = let e = c.enough in let f = a.enough in omega (arith, one, e, f)

-- the sources that stay count what they counted
module _ (acct other : Acct) (extents more : List ExtentRow) where
  abbrev counts_all : NamedSource → Type 0
  counts_all = CountsUses other (together acct extents other more)

  all_if : (goes : Bool) (s : NamedSource) (ss : List NamedSource) → counts_all s → All (CountsUses other more) (sources_staying acct extents ss) →
      All (CountsUses other more) (staying_if acct extents goes s ss)
  all_if true s ss c all = all
  all_if false s ss c all =
      All-cons (CountsUses other more) (less_source acct extents s) (sources_staying acct extents ss) (counts_more extents more s acct other c) all

  all_count : (ss : List NamedSource) → All counts_all ss → All (CountsUses other more) (sources_staying acct extents ss)
  all_count [] c = All-nil (CountsUses other more)
  all_count (s ∷ ss) c =
      all_if (goes_with extents s) s ss (All-head counts_all s ss c) (all_count ss (All-tail counts_all s ss c))

  -- a source that more extents name stays
  abbrev found_if : Bool → ℕ → NamedSource → List NamedSource → Option NamedSource
  found_if goes addr s ss =
      source_at addr (staying_if acct extents goes s ss)

  stays : (addr : ℕ) (ss : List NamedSource) → 1 ≤ naming addr more → All (CountsUses acct extents) ss → All counts_all ss →
      IsThere (source_at addr ss) → IsThere (source_at addr (sources_staying acct extents ss))
  stays addr [] one own all t = t
  stays addr (s ∷ ss) one own all t =
      elim (eqb s.addr addr) as (λ v. eqb s.addr addr ≡ v → IsThere (cond v (Some s) (source_at addr ss)) →
      IsThere (found_if (goes_with extents s) addr s ss)) [
        | true ↦ λ e t.
            let at = eqb-true s.addr addr e in
            let last = counts_last extents more s acct other (subst (λ a. 1 ≤ naming a more) (sym at) one) (All-head (CountsUses acct extents) s ss own)
            (All-head counts_all s ss all) in
            subst (λ v. IsThere (found_if v addr s ss)) (sym (no_last extents s last))
            (subst (λ v. IsThere (cond v (Some (less_source acct extents s)) (source_at addr (sources_staying acct extents ss)))) (sym e) tt)
        | false ↦ λ e t.
            let rest = stays addr ss one (All-tail (CountsUses acct extents) s ss own) (All-tail counts_all s ss all) t in
            elim (goes_with extents s) as (λ v. IsThere (found_if v addr s ss)) [
              | true ↦ rest
              | false ↦ subst (λ v. IsThere (cond v (Some (less_source acct extents s)) (source_at addr (sources_staying acct extents ss)))) (sym e) rest
            ]
      ] refl t

-- an extent among some names its source
names_own : (e : ExtentRow) (es : List ExtentRow) → 1 ≤ naming e.source (e ∷ es)
names_own e es =
    let c = sum_by-cons (names e.source) e es in
    let n : names e.source e ≡ 1 = ap (λ v. if v then 1 else 0) (eq-eqb e.source e.source refl) in
    omega (arith, c, n)

names_later : (addr : ℕ) (e : ExtentRow) (es : List ExtentRow) → naming addr es ≤ naming addr (e ∷ es)
names_later addr e es = let c = sum_by-cons (names addr) e es in omega (arith, c)

all_there : (P Q : ℕ → Type 0) (more es : List ExtentRow) → ((addr : ℕ) → naming addr es ≤ naming addr more) →
    ((addr : ℕ) → 1 ≤ naming addr more → P addr → Q addr) → All (λ e. P e.source) es → All (λ e. Q e.source) es
all_there P Q more [] few on all = All-nil (λ (e : ExtentRow). Q e.source)
all_there P Q more (e ∷ es) few on all =
    All-cons (λ (x : ExtentRow). Q x.source) e es
    (on e.source (let o = names_own e es in let f = few e.source in omega (arith, o, f)) (All-head (λ (x : ExtentRow). P x.source) e es all))
    (all_there P Q more es (λ addr. let l = names_later addr e es in let f = few addr in omega (arith, l, f)) on
    (All-tail (λ (x : ExtentRow). P x.source) e es all))

-- those of more extents are there
more_there : (acct other : Acct) (extents more : List ExtentRow) (P : ExtentRow → Type 0) →
    All P (together acct extents other more) → All P more
more_there acct other extents more P all = by (is_same_account acct other) all
  where
    behind : (xs : List ExtentRow) → All P (xs ++ more) → All P more
    behind [] h = h
    behind (x ∷ xs) h = behind xs (All-tail P x (xs ++ more) h)

    by : (same : Bool) → All P (if same then extents ++ more else more) → All P more
    by true h = behind extents h
    by false h = h

-- what an object that goes leaves of its sources: those that stay stand, count all other extents that name them, and are
-- the sources that these extents name
pub destroy_leaves : {object : ℕ} {row : ObjectRow} {sources : List NamedSource} {old new : Heap} → ObjectGone object row sources old new →
    AreNamed row.account row.extents sources → (rest : Entries) →
    BlocksAre old.blocks ((object_entries object row ++ sources_entries sources) ++ rest) →
    LeavesSources row.account row.extents sources rest new.blocks
destroy_leaves {object} {row} {sources} {old} {new} gone own rest stands = record {
  stands = stands_kept new.blocks row.account row.extents sources rest (gone.changes.kept rest stands);
  named = λ other more n. record {
    there =
        all_there (λ addr. IsThere (source_at addr sources)) (λ addr. IsThere (source_at addr (sources_staying row.account row.extents sources))) more more
        (λ addr. omega arith) (λ addr one t. stays row.account other row.extents more addr sources one own.counted n.counted t)
        (more_there row.account other row.extents more (λ (e : ExtentRow). IsThere (source_at e.source sources)) n.there);
    counted = all_count row.account other row.extents more sources n.counted;
  };
}
