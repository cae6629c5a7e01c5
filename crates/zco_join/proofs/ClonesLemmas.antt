-- Clones that are kept of parts, and the sources that they name.
use Rattle.std.proofs.Common.{◌≡◌, ◌+◌, ◌≤◌, ◌<◌, ◌^◌, List, [], ◌∷◌, ◌++◌, length, refl, subst, arith}
use Rattle.std.specs.Prelude.{All, map, if◌then◌else◌}
use Rattle.std.proofs.lemmas.List.Concat.{flat_map-append}
use Rattle.std.proofs.lemmas.List.Elements.{All-cons, All-head, All-nil, All-tail}
use Rattle.sdr_base.specs.Objects.{Heap}
use Rattle.sdr_base.specs.ZcoObjects.{ExtentRow}
use Rattle.sdr_base.specs.declared.account.Acct.{Acct}
use Rattle.sdr_base.specs.declared.account.Acct.TheVariants as accts
use Rattle.sdr_model.specs.Accounts.{is_same_account}
use Rattle.sdr_model.specs.Limits.{longest_source}
use Rattle.zco_obj.specs.Gone.{NamedSource, source_at}
use Rattle.zco_obj.specs.Kept.{ExtentFits, ObjectFits}
use Rattle.zco_obj.specs.Links.{piece_of}
use Rattle.zco_obj.specs.Uses.{CountsUses, IsThere}
use Rattle.zco_obj.specs.declared.extent.ExtentPiece.{ExtentPiece}
use Rattle.zco_part.specs.Sources.{MayCount}
use Rattle.zco_join.specs.Stocks.{CountsMore}
use Rattle.zco_join.specs.Joining.{AreClones, KeepsToJoin, Together, pieces_in}
use Rattle.zco_join.specs.Stocks.{Standing, extents_for, own_extents}
use Rattle.zco_join.specs.declared.filled.Filled.{Filled}
use Rattle.zco_join.proofs.CountedLemmas.{all_behind, all_front, all_joined, all_mapped, may_count}

-- an object's extents are among those of its account
pub own_all : (z : Standing) → own_extents z.row.account z ≡ z.row.extents
own_all z = by z.row.account
  where
    by : (a : Acct) → (if is_same_account a a then z.row.extents else []) ≡ z.row.extents
    by accts.Inbound = refl
    by accts.Outbound = refl

-- what holds of the extents of all accounts holds of what they name
pub all_pieces : (P : ExtentPiece → Type 0) (zs : List Standing) → ((acct : Acct) → All (λ e. P (piece_of e)) (extents_for acct zs)) →
    All P (pieces_in zs)
all_pieces P [] all = All-nil P
all_pieces P (z ∷ zs) all =
    let Q : ExtentRow → Type 0 = λ e. P (piece_of e) in
    all_joined P (map piece_of z.row.extents) (pieces_in zs)
    (all_mapped Q P piece_of (λ e h. h) z.row.extents
    (subst (All Q) (own_all z) (all_front Q (own_extents z.row.account z) (extents_for z.row.account zs) (all z.row.account))))
    (all_pieces P zs (λ acct. all_behind Q (own_extents acct z) (extents_for acct zs) (all acct)))

-- a piece that an extent names, whose numbers fit
pub record PieceFits (p : ExtentPiece) : Type 0 where
  pub source : p.of < 2 ^ 64
  pub inside : p.offset + p.bytes ≤ longest_source

pub pieces_fit : (zs : List Standing) → All (λ z. ObjectFits z.row) zs → All PieceFits (pieces_in zs)
pieces_fit [] all = All-nil PieceFits
pieces_fit (z ∷ zs) all =
    let P : Standing → Type 0 = λ y. ObjectFits y.row in
    all_joined PieceFits (map piece_of z.row.extents) (pieces_in zs)
    (all_mapped ExtentFits PieceFits piece_of (λ e f. record { source = f.source; inside = f.inside }) z.row.extents (All-head P z zs all).extents)
    (pieces_fit zs (All-tail P z zs all))

pub all_both : {X : Type 0} (P Q R : X → Type 0) → ((x : X) → P x → Q x → R x) → (xs : List X) → All P xs → All Q xs → All R xs
all_both P Q R f [] p q = All-nil R
all_both P Q R f (x ∷ xs) p q =
    All-cons R x xs (f x (All-head P x xs p) (All-head Q x xs q)) (all_both P Q R f xs (All-tail P x xs p) (All-tail Q x xs q))

-- the clones that are to become one object
module _ {start : Heap} {acct : Acct} {parts : List Filled} {t : Together} (k : KeepsToJoin start acct parts t) where
  abbrev pub all_pieces_in : List ExtentPiece
  all_pieces_in = pieces_in t.clones

  -- their sources are there
  pub pieces_there : All (λ p. IsThere (source_at p.of t.sources)) all_pieces_in
  pieces_there =
      all_pieces (λ p. IsThere (source_at p.of t.sources)) t.clones
      (λ a. let Q : ExtentRow → Type 0 = λ e. IsThere (source_at e.source t.sources) in
      all_front Q (extents_for a t.clones) (extents_for a t.others)
      (subst (All Q) (flat_map-append (own_extents a) t.clones t.others) (k.keeps.named a).there))

  pub pieces_are_fit : All PieceFits all_pieces_in
  pieces_are_fit = pieces_fit t.clones (all_front (λ (z : Standing). ObjectFits z.row) t.clones t.others k.keeps.fits)

  -- and may count more
  pub sources_may : All MayCount t.sources
  sources_may =
      let all = extents_for acct (t.clones ++ t.others) in
      all_both (CountsUses acct all) (CountsMore (length all_pieces_in)) MayCount (λ s u c. may_count (length all_pieces_in) s u.fits c) t.sources
      (k.keeps.named acct).counted k.counts

  pub sources_short : All (λ s. s.source.row.length ≤ longest_source) t.sources
  sources_short =
      let all = extents_for acct (t.clones ++ t.others) in
      all_both (CountsUses acct all) (CountsMore (length all_pieces_in)) (λ (s : NamedSource). s.source.row.length ≤ longest_source) (λ s u c. u.short) t.sources
      (k.keeps.named acct).counted k.counts

-- as many clones as parts
pub clones_length : (parts : List Filled) (zs : List Standing) → AreClones parts zs → length parts ≡ length zs
clones_length [] [] a = refl
clones_length [] (z ∷ zs) a = absurd a
clones_length (p ∷ ps) [] a = absurd a
clones_length (p ∷ ps) (z ∷ zs) a = let ih = clones_length ps zs a.2 in omega (arith, ih)
