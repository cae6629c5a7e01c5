-- The rows of objects by their addresses, and the bytes of an object whose part is its whole.
use Rattle.std.proofs.Common.{◌≡◌, ◌≢◌, ◌+◌, ◌≤◌, ℕ, Bool, cond, List, [], ◌∷◌, ◌++◌, take, drop, refl, sym, ap, ◌∙◌, subst, arith, append_assoc, eq-eqb, ne_eqb, take_all}
use Rattle.std.specs.Prelude.{◌==◌, All, flat_map, map}
use Rattle.std.proofs.lemmas.List.Concat.{flat_map-append}
use Rattle.std.proofs.lemmas.List.Elements.{All-cons, All-head, All-nil, All-tail}
use Rattle.sdr_base.specs.Entries.{BlocksAre, Entries, times}
use Rattle.sdr_base.specs.Objects.{Heap}
use Rattle.sdr_base.specs.ZcoObjects.{ExtentRow, ObjectRow, object_entries}
use Rattle.sdr_base.specs.declared.account.Acct.{Acct}
use Rattle.sdr_base.specs.declared.account.Acct.TheVariants as accts
use Rattle.sdr_base.proofs.StandingLemmas.{times-append}
use Rattle.zco_obj.specs.Gone.{sources_entries}
use Rattle.zco_obj.specs.Kept.{extents_length}
use Rattle.zco_obj.specs.Links.{piece_of}
use Rattle.zco_obj.specs.Making.{empty_row}
use Rattle.zco_part.specs.Pieces.{whole_row}
use Rattle.zco_join.specs.Joining.{AreClones, pieces_in}
use Rattle.zco_join.specs.Stocks.{Standing, objects_entries, queues_entries}
use Rattle.zco_join.specs.declared.filled.Filled.{Filled}
use Rattle.zco_join.proofs.ClonesLemmas.{all_both}
use Rattle.zco_pieces.proofs.CutLawLemmas.{named_length}
use Rattle.zco_pieces.specs.Bytes.{bytes_named, part_bytes}
use Rattle.law_pieces.specs.Rebuilding.{AreAt}
use Rattle.law_pieces.specs.Texts.{Beside, Holds, both, stock_of}

-- the row of the first object at an address, or one with nothing in it
pub row_at : List Standing → ℕ → ObjectRow
row_at [] addr = empty_row accts.Inbound
row_at (z ∷ zs) addr = cond (z.addr == addr) z.row (row_at zs addr)

-- an object's blocks have its address
own_times : (z : Standing) → 1 ≤ times z.addr (object_entries z.addr z.row)
unfolding times
own_times z = let e = ap (λ (b : Bool). cond {A = ℕ} b 1 0) (eq-eqb z.addr z.addr refl) in omega (arith, e)

times_first : (addr : ℕ) (z : Standing) (zs : List Standing) (rest : Entries) →
    times addr (objects_entries (z ∷ zs) ++ rest) ≡ times addr (object_entries z.addr z.row) + times addr (objects_entries zs ++ rest)
times_first addr z zs rest =
    ap (times addr) (append_assoc (object_entries z.addr z.row) (objects_entries zs) rest)
    ∙ times-append addr (object_entries z.addr z.row) (objects_entries zs ++ rest)

none_there : (addr : ℕ) (zs : List Standing) (rest : Entries) → times addr (objects_entries zs ++ rest) ≡ 0 → All (λ y. y.addr ≢ addr) zs
none_there addr [] rest none = All-nil (λ (y : Standing). y.addr ≢ addr)
none_there addr (z ∷ zs) rest none =
    let t = times_first addr z zs rest in
    All-cons (λ (y : Standing). y.addr ≢ addr) z zs
    (λ e. let o = subst (λ a. 1 ≤ times a (object_entries z.addr z.row)) e (own_times z) in omega (arith, o, t, none))
    (none_there addr zs rest (omega (arith, t, none)))

-- where each address stands once, these are the rows of all
rows_at : (zs : List Standing) (rest : Entries) → ((addr : ℕ) → times addr (objects_entries zs ++ rest) ≤ 1) → AreAt (row_at zs) zs
unfolding row_at
rows_at [] rest once = All-nil (λ (y : Standing). empty_row accts.Inbound ≡ y.row)
rows_at (z ∷ zs) rest once =
    let Q : Standing → Type 0 = λ y. row_at (z ∷ zs) y.addr ≡ y.row in
    let t = times_first z.addr z zs rest in
    let o = own_times z in
    let n = once z.addr in
    All-cons Q z zs (ap (λ b. cond b z.row (row_at zs z.addr)) (eq-eqb z.addr z.addr refl))
    (all_both (λ (y : Standing). y.addr ≢ z.addr) (λ (y : Standing). row_at zs y.addr ≡ y.row) Q
    (λ y other is. ap (λ b. cond b z.row (row_at zs y.addr)) (ne_eqb z.addr y.addr (λ e. other (sym e))) ∙ is) zs
    (none_there z.addr zs rest (omega (arith, t, o, n)))
    (rows_at zs rest (λ addr. let u = times_first addr z zs rest in let m = once addr in omega (arith, u, m))))

-- so it is with the clones of a text
pub rows_there : {heap : Heap} {most room : ℕ} (x : Beside) → Holds heap most room (stock_of x) → AreAt (row_at x.clones) x.clones
rows_there {heap} x h =
    let rest = queues_entries (both x.tickets) ++ (sources_entries x.sources ++ x.rest) in
    let f : Standing → Entries = λ z. object_entries z.addr z.row in
    let s : BlocksAre heap.blocks (objects_entries x.clones ++ (objects_entries x.others ++ rest)) =
    subst (BlocksAre heap.blocks)
    (ap (λ (es : Entries). es ++ rest) (flat_map-append f x.clones x.others) ∙ append_assoc (objects_entries x.clones) (objects_entries x.others) rest)
    h.keeps.stands in
    rows_at x.clones (objects_entries x.others ++ rest) s.once

-- what the clones of parts name, by their addresses
pub clones_named : (clone_at : ℕ → ObjectRow) (parts : List Filled) (zs : List Standing) → AreClones parts zs → AreAt clone_at zs →
    flat_map (λ (p : Filled). map piece_of (clone_at p.object).extents) parts ≡ pieces_in zs
clones_named clone_at [] [] a t = refl
clones_named clone_at [] (z ∷ zs) a t = absurd a
clones_named clone_at (p ∷ ps) [] a t = absurd a
clones_named clone_at (p ∷ ps) (z ∷ zs) a t =
    let P : Standing → Type 0 = λ y. clone_at y.addr ≡ y.row in
    ap (λ (row : ObjectRow). map piece_of row.extents ++ flat_map (λ (q : Filled). map piece_of (clone_at q.object).extents) ps)
    (ap clone_at (sym a.0) ∙ All-head P z zs t)
    ∙ ap (λ qs. map piece_of z.row.extents ++ qs) (clones_named clone_at ps zs a.2 (All-tail P z zs t))

-- an object, whose part is its whole, has the bytes of its extents
pub whole_bytes : (held : ℕ → ℕ → ℕ) (acct : Acct) (es : List ExtentRow) → part_bytes held (whole_row acct es) ≡ bytes_named held (map piece_of es)
whole_bytes held acct es =
    ap (take (extents_length es)) (all (bytes_named held (map piece_of es)))
    ∙ take_all (extents_length es) (bytes_named held (map piece_of es)) (let l = named_length held es in omega (arith, l))
  where
    all : (xs : List ℕ) → drop 0 xs ≡ xs
    all [] = refl
    all (x ∷ xs) = refl
