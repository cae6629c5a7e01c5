-- A clone goes, and its sources stay, since another object names them too.
use Rattle.std.proofs.Common.{◌≡◌, ◌+◌, ◌-◌, ◌*◌, ◌≤◌, ℕ, zero, suc, Bool, true, false, cond, List, [], ◌∷◌, ◌++◌, length, Some, refl, sym, ap, ◌∙◌, subst, arith, append_assoc, length-append}
use Rattle.std.specs.Prelude.{◌==◌, ◌&&◌, All, filter, flat_map, map, nat_lt, not, if◌then◌else◌}
use Rattle.std.proofs.lemmas.Bool.{ne_eqb}
use Rattle.std.proofs.lemmas.List.{length-map}
use Rattle.std.proofs.lemmas.List.Elements.{All-cons, All-head, All-nil, All-tail, All-weaker}
use Rattle.sdr_base.specs.Entries.{BlocksAre, Entries}
use Rattle.sdr_base.specs.Making.{gave}
use Rattle.sdr_base.specs.Objects.{Heap}
use Rattle.sdr_base.specs.ZcoObjects.{ExtentRow, ObjectRow, capsule_addr, object_entries}
use Rattle.sdr_base.specs.declared.account.Acct.{Acct}
use Rattle.sdr_base.specs.declared.account.Acct.TheVariants as accts
use Rattle.sdr_base.specs.declared.moves.Move.TheVariants.{Gave}
use Rattle.sdr_model.specs.Accounts.{is_same_account}
use Rattle.zco_acct.specs.Words.{first_word, last_word, with_occupied}
use Rattle.zco_obj.specs.Destroying.{DestroysObject, KeepsSources, ObjectGone, SomeWithSources, gone_object, parts_lines}
use Rattle.zco_obj.specs.Gone.{NamedSource, goes_with, going_before, gone_blocks, less_source, naming, source_at, sources_entries}
use Rattle.zco_obj.specs.Kept.{ObjectFits}
use Rattle.zco_obj.specs.Links.{piece_of}
use Rattle.zco_obj.specs.Leaving.{LeavesSources, raws_left, sources_staying}
use Rattle.zco_obj.specs.Uses.{AreNamed, CountsUses, IsThere}
use Rattle.zco_obj.proofs.CountLemmas.{naming-append}
use Rattle.zco_obj.proofs.LeavingLemmas.{destroy_leaves}
use Rattle.zco_ref.specs.Going.{blocks_left, gone_with, is_passing}
use Rattle.zco_ref.specs.Kept.{count_in, uses_of}
use Rattle.zco_part.specs.Naming.{IsWholeRow}
use Rattle.zco_join.specs.Joining.{AreClones, pieces_in}
use Rattle.zco_join.specs.Leaving.{Doomed, KeepsToDestroy, NamesMore}
use Rattle.zco_join.specs.Stocks.{Standing, extents_for, objects_entries, own_extents, queues_entries}
use Rattle.zco_join.specs.declared.filled.Filled.{Filled}
use Rattle.zco_join.proofs.AppendLemmas.{all_tell}
use Rattle.zco_join.proofs.ClonesLemmas.{own_all}
use Rattle.zco_join.proofs.CountedLemmas.{all_front}
use Rattle.zco_join.proofs.TicketLemmas.{occupied_first, occupied_last}
use Rattle.zco_join.proofs.TurnLemmas.{turn}

-- some first ones of extents are named too
pub named_front : (acct : Acct) (sources : List NamedSource) (xs ys : List ExtentRow) → AreNamed acct (xs ++ ys) sources → AreNamed acct xs sources
named_front acct sources xs ys n = record {
  there = all_front (λ (e : ExtentRow). IsThere (source_at e.source sources)) xs ys n.there;
  counted =
      All-weaker (CountsUses acct (xs ++ ys)) (CountsUses acct xs)
      (λ s u. record {
        fits = u.fits;
        short = u.short;
        enough = let e = u.enough in let a = naming-append s.addr xs ys in omega (arith, e, a);
      }) sources n.counted;
}

-- so often is a source named by the extents of an account that one object among others has
naming_one : (addr : ℕ) (acct : Acct) (zs : List Standing) (x : Standing) (others : List Standing) →
    naming addr (own_extents acct x) ≤ naming addr (extents_for acct (zs ++ (x ∷ others)))
naming_one addr acct [] x others =
    let a = naming-append addr (own_extents acct x) (extents_for acct others) in omega (arith, a)
naming_one addr acct (z ∷ zs) x others =
    let a = naming-append addr (own_extents acct z) (extents_for acct (zs ++ (x ∷ others))) in
    let ih = naming_one addr acct zs x others in omega (arith, a, ih)

-- A clone that is to go, before others.
module _ {old : Heap} {p : Filled} {ps : List Filled} {d : Doomed} {z : Standing} {zs : List Standing} (k : KeepsToDestroy old (p ∷ ps) d)
    (is : d.clones ≡ z ∷ zs) where
  abbrev acct : Acct
  acct = z.row.account

  abbrev es : List ExtentRow
  es = z.row.extents

  abbrev more : List Standing
  more = zs ++ (d.object ∷ d.others)

  whole : d.clones ++ (d.object ∷ d.others) ≡ z ∷ more
  whole = ap (λ (xs : List Standing). xs ++ (d.object ∷ d.others)) is

  clones : AreClones (p ∷ ps) (z ∷ zs)
  clones = subst (AreClones (p ∷ ps)) is k.clones

  pub addr_is : z.addr ≡ p.object
  addr_is = clones.0

  named_all : (other : Acct) → AreNamed other (own_extents other z ++ extents_for other more) d.sources
  named_all other = subst (λ (xs : List Standing). AreNamed other (extents_for other xs) d.sources) whole (k.keeps.named other)

  named_own : AreNamed acct (es ++ extents_for acct more) d.sources
  named_own = subst (λ (xs : List ExtentRow). AreNamed acct (xs ++ extents_for acct more) d.sources) (own_all z) (named_all acct)

  names_more : NamesMore d.object z
  names_more = All-head (NamesMore d.object) z zs (subst (All (NamesMore d.object)) is k.named)

  -- a source that the clone names is named more often than by the clone
  used_more : (s : NamedSource) → 1 ≤ naming s.addr es → CountsUses acct (es ++ extents_for acct more) s →
      CountsUses d.object.row.account (own_extents d.object.row.account z ++ extents_for d.object.row.account more) s → naming s.addr es + 1 ≤ uses_of s.source
  used_more s one own other = by acct d.object.row.account refl refl
    where
      cases : (a b : Acct) → acct ≡ a → d.object.row.account ≡ b → naming s.addr es ≤ naming s.addr d.object.row.extents →
          naming s.addr (es ++ extents_for acct more) ≤ count_in acct s.source →
          naming s.addr (own_extents d.object.row.account z ++ extents_for d.object.row.account more) ≤ count_in d.object.row.account s.source →
          naming s.addr (es ++ extents_for acct more) ≡ naming s.addr es + naming s.addr (extents_for acct more) →
          naming s.addr (own_extents d.object.row.account z ++ extents_for d.object.row.account more)
          ≡ naming s.addr (own_extents d.object.row.account z) + naming s.addr (extents_for d.object.row.account more) →
          naming s.addr (own_extents acct d.object) ≤ naming s.addr (extents_for acct more) →
          naming s.addr (own_extents d.object.row.account d.object) ≤ naming s.addr (extents_for d.object.row.account more) →
          naming s.addr (own_extents d.object.row.account d.object) ≡ naming s.addr d.object.row.extents →
          naming s.addr es + 1 ≤ uses_of s.source
      cases accts.Inbound accts.Inbound e f n u v w x y y' o =
          let c = ap (λ m. count_in m s.source) e in let g = ap (λ m. naming s.addr (extents_for m more)) (e ∙ sym f) in
          omega (arith, one, n, u, w, y', o, c, g)
      cases accts.Outbound accts.Outbound e f n u v w x y y' o =
          let c = ap (λ m. count_in m s.source) e in let g = ap (λ m. naming s.addr (extents_for m more)) (e ∙ sym f) in
          omega (arith, one, n, u, w, y', o, c, g)
      cases accts.Inbound accts.Outbound e f n u v w x y y' o =
          let c = ap (λ m. count_in m s.source) e in let g = ap (λ m. count_in m s.source) f in
          omega (arith, one, n, u, v, w, x, y', o, c, g)
      cases accts.Outbound accts.Inbound e f n u v w x y y' o =
          let c = ap (λ m. count_in m s.source) e in let g = ap (λ m. count_in m s.source) f in
          omega (arith, one, n, u, v, w, x, y', o, c, g)

      by : (a b : Acct) → acct ≡ a → d.object.row.account ≡ b → naming s.addr es + 1 ≤ uses_of s.source
      by a b e f =
          let n = names_more s.addr in
          let u = own.enough in
          let v = other.enough in
          let w = naming-append s.addr es (extents_for acct more) in
          let x = naming-append s.addr (own_extents d.object.row.account z) (extents_for d.object.row.account more) in
          let y = naming_one s.addr acct zs d.object d.others in
          let y' = naming_one s.addr d.object.row.account zs d.object d.others in
          let o = ap (naming s.addr) (own_all d.object) in
          cases a b e f n u v w x y y' o

  stays_one : (s : NamedSource) → CountsUses acct (es ++ extents_for acct more) s →
      CountsUses d.object.row.account (own_extents d.object.row.account z ++ extents_for d.object.row.account more) s → goes_with es s ≡ false
  stays_one s own other = by (naming s.addr es) refl
    where
      and_false : (a b : Bool) → (a && (b && false)) ≡ false
      and_false true true = refl
      and_false true false = refl
      and_false false b = refl

      none : (a : Bool) → (a && false) ≡ false
      none true = refl
      none false = refl

      by : (n : ℕ) → naming s.addr es ≡ n → goes_with es s ≡ false
      by zero e =
          let m : nat_lt 0 (naming s.addr es) ≡ false = grind (arith, e) in
          ap (λ v. is_passing s.source.row.medium s.source.row.flagged && (v && (uses_of s.source == naming s.addr es))) m
          ∙ none (is_passing s.source.row.medium s.source.row.flagged)
      by (suc n) e =
          let m = used_more s (omega (arith, e)) own other in
          let no : (uses_of s.source == naming s.addr es) ≡ false = ne_eqb (uses_of s.source) (naming s.addr es) (λ q. absurd (omega (arith, m, q))) in
          ap (λ v. is_passing s.source.row.medium s.source.row.flagged && (nat_lt 0 (naming s.addr es) && v)) no
          ∙ and_false (is_passing s.source.row.medium s.source.row.flagged) (nat_lt 0 (naming s.addr es))

  stays_all : (ss : List NamedSource) → All (CountsUses acct (es ++ extents_for acct more)) ss →
      All (CountsUses d.object.row.account (own_extents d.object.row.account z ++ extents_for d.object.row.account more)) ss →
      All (λ s. goes_with es s ≡ false) ss
  stays_all [] a b = All-nil (λ (s : NamedSource). goes_with es s ≡ false)
  stays_all (s ∷ ss) a b =
      let P = CountsUses acct (es ++ extents_for acct more) in
      let Q = CountsUses d.object.row.account (own_extents d.object.row.account z ++ extents_for d.object.row.account more) in
      All-cons (λ (x : NamedSource). goes_with es x ≡ false) s ss (stays_one s (All-head P s ss a) (All-head Q s ss b))
      (stays_all ss (All-tail P s ss a) (All-tail Q s ss b))

  pub all_stay : All (λ s. goes_with es s ≡ false) d.sources
  all_stay = stays_all d.sources named_own.counted (named_all d.object.row.account).counted

  none_left : (ss : List NamedSource) → All (λ s. goes_with es s ≡ false) ss → filter (goes_with es) ss ≡ []
  none_left [] all = refl
  none_left (s ∷ ss) all =
      let P : NamedSource → Type 0 = λ x. goes_with es x ≡ false in
      ap (λ v. cond v (s ∷ filter (goes_with es) ss) (filter (goes_with es) ss)) (All-head P s ss all) ∙ none_left ss (All-tail P s ss all)

  no_raws : raws_left es d.sources ≡ []
  no_raws =
      ap (flat_map (λ (s : NamedSource). blocks_left s.source.row.medium s.source.row.subject s.bytes)) (none_left d.sources all_stay)

  all_staying : (ss : List NamedSource) → All (λ s. goes_with es s ≡ false) ss → filter (λ s. not (goes_with es s)) ss ≡ ss
  all_staying [] all = refl
  all_staying (s ∷ ss) all =
      let P : NamedSource → Type 0 = λ x. goes_with es x ≡ false in
      let others = filter (λ x. not (goes_with es x)) ss in
      ap (λ v. cond (not v) (s ∷ others) others) (All-head P s ss all)
      ∙ ap (λ (xs : List NamedSource). s ∷ xs) (all_staying ss (All-tail P s ss all))

  -- so all stay
  all_left : sources_staying acct es d.sources ≡ map (less_source acct es) d.sources
  all_left = ap (λ (ss : List NamedSource). map (less_source acct es) ss) (all_staying d.sources all_stay)

  -- nothing goes with its extents
  found_stays : (addr : ℕ) (later : List ExtentRow) (ss : List NamedSource) → All (λ s. goes_with es s ≡ false) ss →
      going_before es later (source_at addr ss) ≡ []
  found_stays addr later [] all = refl
  found_stays addr later (s ∷ ss) all =
      let P : NamedSource → Type 0 = λ x. goes_with es x ≡ false in
      by (s.addr == addr) (All-head P s ss all) (found_stays addr later ss (All-tail P s ss all))
    where
      by : (b : Bool) → goes_with es s ≡ false → going_before es later (source_at addr ss) ≡ [] →
          going_before es later (cond b (Some s) (source_at addr ss)) ≡ []
      by true e others =
          ap (λ v. if v && (naming s.addr later == 0) then gone_with s.source.row.medium s.source.row.subject s.addr else []) e
      by false e others = others

  gone_alone : (xs : List ExtentRow) → length (gone_blocks d.sources es xs) ≡ length xs
  gone_alone [] = refl
  gone_alone (x ∷ xs) =
      let b = ap (λ (before : List ℕ). length (before ++ (x.addr ∷ gone_blocks d.sources es xs))) (found_stays x.source xs d.sources all_stay) in
      let ih = gone_alone xs in omega (arith, b, ih)

  row_is : IsWholeRow z.row
  row_is = clones.1

  abbrev pub gone : List ℕ
  gone = gone_object z.addr z.row d.sources

  pub gone_count : length gone ≡ 1 + length es
  gone_count =
      let H = map capsule_addr z.row.headers in
      let G = gone_blocks d.sources es es in
      let T = map capsule_addr z.row.trailers in
      let h = ap (λ (r : ObjectRow). length (map capsule_addr r.headers)) row_is in
      let t = ap (λ (r : ObjectRow). length (map capsule_addr r.trailers)) row_is in
      let a = length-append ((H ++ G) ++ T) (z.addr ∷ []) in
      let b = length-append (H ++ G) T in
      let c = length-append H G in
      let n = gone_alone es in
      omega (arith, h, t, a, b, c, n)

  pub lines_most : parts_lines z.row d.sources ≤ 28 * length es
  lines_most =
      let h = ap (λ (r : ObjectRow). length r.headers) row_is in
      let t = ap (λ (r : ObjectRow). length r.trailers) row_is in
      let n = gone_alone es in
      omega (arith, h, t, n)

  abbrev beside : Entries
  beside = objects_entries more ++ (queues_entries d.queues ++ d.rest)

  stands : BlocksAre old.blocks (object_entries z.addr z.row ++ (sources_entries d.sources ++ beside))
  stands =
      let O = object_entries z.addr z.row in
      let O' = objects_entries more in
      let Q = queues_entries d.queues in
      let S = sources_entries d.sources in
      let one : BlocksAre old.blocks ((O ++ O') ++ (Q ++ (S ++ d.rest))) =
      subst (λ (xs : List Standing). BlocksAre old.blocks (objects_entries xs ++ (Q ++ (S ++ d.rest)))) whole k.keeps.stands in
      turn (3 ∷ 1 ∷ []) (O ∷ O' ∷ Q ∷ S ∷ []) d.rest (subst (BlocksAre old.blocks) (append_assoc O O' (Q ++ (S ++ d.rest))) one)

  pub keeps_sources : KeepsSources old.blocks z.addr z.row d.sources
  keeps_sources = record {
    rest = beside;
    stands = stands;
    fits = All-head (λ (x : Standing). ObjectFits x.row) z more (subst (All (λ (x : Standing). ObjectFits x.row)) whole k.keeps.fits);
    named = named_front acct d.sources es (extents_for acct more) named_own;
  }

  pub with_sources : SomeWithSources old z.addr
  with_sources = record {
    row = z.row;
    sources = d.sources;
    keeps = keeps_sources;
    room =
        let n = gone_count in
        let r = k.room in
        let c = ap (λ (xs : List Standing). length (pieces_in xs)) is in
        let a = length-append (map piece_of es) (pieces_in zs) in
        let m = length-map es piece_of in
        omega (arith, n, r, c, a, m);
  }

  module _ {mid : Heap} (g : DestroysObject p.object old mid) where
    object_gone : ObjectGone z.addr z.row d.sources old mid
    object_gone =
        (subst (λ a. DestroysObject a old mid) (sym addr_is) g).gone z.row d.sources keeps_sources

    leaves : LeavesSources acct es d.sources beside mid.blocks
    leaves =
        destroy_leaves object_gone keeps_sources.named beside
        (subst (BlocksAre old.blocks) (sym (append_assoc (object_entries z.addr z.row) (sources_entries d.sources) beside)) stands)

    abbrev pub doomed_then : Doomed
    doomed_then = record d { clones = zs; sources = map (less_source acct es) d.sources }

    gone_first : (other : Acct) → mid.roots (first_word other) ≡ old.roots (first_word other)
    gone_first other =
        let r : mid.roots ≡ (with_occupied old acct _).roots = ap (λ (h : Heap). h.roots) object_gone.others in
        ap (λ (words : ℕ → ℕ). words (first_word other)) r ∙ occupied_first old acct other _

    gone_last : (other : Acct) → mid.roots (last_word other) ≡ old.roots (last_word other)
    gone_last other =
        let r : mid.roots ≡ (with_occupied old acct _).roots = ap (λ (h : Heap). h.roots) object_gone.others in
        ap (λ (words : ℕ → ℕ). words (last_word other)) r ∙ occupied_last old acct other _

    pub gone_moves : mid.moves ≡ old.moves ++ gave gone
    gone_moves = ap (λ (h : Heap). h.moves) object_gone.others

    pub gone_spare : mid.spare ≡ old.spare - (1 + length es)
    gone_spare =
        let s : mid.spare ≡ old.spare - length (gave gone) = ap (λ (h : Heap). h.spare) object_gone.others in
        let l = length-map gone (λ a. Gave a) in
        let n = gone_count in omega (arith, s, l, n)

    -- the others may go
    pub destroy_step : KeepsToDestroy mid ps doomed_then
    destroy_step = record {
      keeps = record {
        stands =
            let S' = sources_entries (sources_staying acct es d.sources) in
            let O' = objects_entries more in
            let Q = queues_entries d.queues in
            subst (λ (ss : List NamedSource). BlocksAre mid.blocks (O' ++ (Q ++ (sources_entries ss ++ d.rest)))) all_left
            (turn (2 ∷ 2 ∷ []) (S' ∷ O' ∷ Q ∷ []) d.rest
            (subst (λ (raws : Entries). BlocksAre mid.blocks (S' ++ (raws ++ beside))) no_raws leaves.stands));
        fits = All-tail (λ (x : Standing). ObjectFits x.row) z more (subst (All (λ (x : Standing). ObjectFits x.row)) whole k.keeps.fits);
        queues = all_tell gone_first gone_last d.queues k.keeps.queues;
        named = λ other.
            subst (λ (ss : List NamedSource). AreNamed other (extents_for other more) ss) all_left
            (leaves.named other (extents_for other more)
            (subst (λ (xs : List ExtentRow). AreNamed other xs d.sources) (together_is (is_same_account acct other) (extents_for other more)) (named_all other)));
      };
      clones = clones.2;
      named = All-tail (NamesMore d.object) z zs (subst (All (NamesMore d.object)) is k.named);
      room =
          let s = gone_spare in
          let r = k.room in
          let c = ap (λ (xs : List Standing). length (pieces_in xs)) is in
          let a = length-append (map piece_of es) (pieces_in zs) in
          let m = length-map es piece_of in
          omega (arith, s, r, c, a, m);
    }
      where
        together_is : (b : Bool) (xs : List ExtentRow) → (if b then es else []) ++ xs ≡ (if b then es ++ xs else xs)
        together_is true xs = refl
        together_is false xs = refl
