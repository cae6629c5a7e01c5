-- A new entry comes to the end of the catalogue.
use Rattle.std.proofs.Common.{◌≡◌, ◌≢◌, ℕ, ◌-◌, ◌≤◌, List, [], ◌∷◌, ◌++◌, length, refl, sym, ap, ◌∙◌, arith, subst, append_assoc, length-append}
use Rattle.std.proofs.lemmas.List.{length-replicate}
use Rattle.sdr_base.specs.Objects.{OnlyShort, OnlyUnmoved}
use Rattle.sdr_base.specs.declared.refusal.Refusal.TheVariants.{LogFull}
use Rattle.sdr_base.specs.declared.stop.Stop.TheVariants.{Refused, DiskFault, MediaFault, Failed}
use Rattle.sdr_base.proofs.HeapLemmas.{short_after}
use Rattle.std.specs.Prelude.{replicate}
use Rattle.sdr_base.specs.Blocks.{Blocks, Reaches, with_at}
use Rattle.sdr_base.specs.Catalogue.{NameRow, catalogue_entries, name_addr, name_block, name_bytes}
use Rattle.sdr_base.specs.Entries.{Entries, BlocksAre}
use Rattle.sdr_base.specs.Linked.{first_of, last_of, linked}
use Rattle.sdr_base.specs.Making.{Made, besides, with_moves}
use Rattle.sdr_base.specs.Objects.{Heap, with_root}
use Rattle.sdr_base.specs.Words.{TakesBytes, layout}
use Rattle.sdr_base.specs.declared.kind.Kind.TheVariants as kinds
use Rattle.sdr_base.specs.declared.moves.Move.TheVariants.{Took}
use Rattle.sdr_base.specs.declared.stop.Stop.{Stop}
use Rattle.sdr_base.proofs.HeapLemmas.{heap_blocks}
use Rattle.sdr_base.proofs.LayoutLemmas.{length-layout}
use Rattle.sdr_base.proofs.LinkedLemmas.{first-append, last-append, linked-append}
use Rattle.sdr_base.proofs.StandingLemmas.{came}
use Rattle.sdr_base.proofs.ChainLemmas.{last_holds}
use Rattle.sdr_cat.specs.Changes.{AddsLast, with_last}
use Rattle.sdr_cat.specs.Kept.{KeepsNames}
use Rattle.sdr_cat.specs.Links.{CatalogueChain, LinksNext}
use Rattle.sdr_cat.proofs.NameLemmas.{length-name_bytes, words}

-- what is said of a stop goes by the moves and by the room for more
unmoved_like : (mid like new : Heap) (stop : Stop) → like.moves ≡ mid.moves → like.spare ≡ mid.spare → OnlyUnmoved mid new stop → OnlyUnmoved like new stop
unmoved_like mid like new (Refused (LogFull lines room)) m s u = record { moves = u.moves ∙ sym m; spare = u.spare ∙ sym s }
unmoved_like mid like new (Refused refusal) m s u = absurd u
unmoved_like mid like new DiskFault m s u = tt
unmoved_like mid like new MediaFault m s u = absurd u
unmoved_like mid like new Failed m s u = tt

-- a stop once the entry's block was taken
pub short_linked : {need addr : ℕ} {old mid : Heap} (linked_to new : Heap) (stop : Stop) → Made (Took need addr ∷ []) old mid →
    besides linked_to ≡ record (besides mid) { roots = linked_to.roots } → OnlyUnmoved linked_to new stop → OnlyShort need old new stop
short_linked {mid = mid} linked_to new stop m same u =
    short_after (record linked_to { roots = mid.roots }) new stop m (ap (λ (h : Heap). record h { roots = mid.roots }) same)
    (unmoved_like linked_to (record linked_to { roots = mid.roots }) new stop refl refl u)

-- the entry's block, at the end
abbrev pub last_row : ℕ → List ℕ → ℕ → ℕ → NameRow
last_row addr name kind object = record { addr = addr; type_number = kind; object = object; name = name }

at_least : (name : List ℕ) → 32 ≤ length (name_bytes name)
at_least name =
    let a = length-append name (replicate {A = ℕ} (31 - length name) 0) in
    let z = length-replicate {A = ℕ} (31 - length name) 0 in omega (arith, a, z)

-- the last entry of some first ones is there
pub last_reaches : {heap : Heap} {prev was : ℕ} {rest : Entries} (rows : List NameRow) → CatalogueChain heap rows was rest → prev ≡ last_of name_addr 0 rows → prev ≢ 0 →
    Reaches (heap.blocks prev) 56
last_reaches [] c e n = absurd (n e)
last_reaches {heap} {prev} {was} {rest} (x ∷ xs) c e n =
    subst (λ p. Reaches (heap.blocks p) 56) (sym e)
    (last_holds name_addr name_block (λ o. Reaches o 56) heap.blocks [] rest 0 was x xs
    (λ p y. let l = length-layout (words was y) (name_bytes y.name) in let a = at_least y.name in omega (arith, l, a)) c.stands)

-- a block that was taken stands behind them
pub came_behind : {addr next : ℕ} {old mid : Heap} {rows : List NameRow} {rest : Entries} (name : List ℕ) (kind object : ℕ) →
    TakesBytes kinds.Name (layout (0 ∷ kind ∷ object ∷ []) (name_bytes name)) addr old mid → CatalogueChain old rows
    next rest →
    CatalogueChain mid rows next ((addr, name_block 0 0 (last_row addr name kind object)) ∷ rest)
came_behind {addr} {next} {old} {mid} {rows} {rest} name kind object t c = record {
  stands =
      subst (λ (b : Blocks). BlocksAre b (linked name_addr name_block 0 next rows ++ ((addr, name_block 0 0 (last_row addr name kind object)) ∷ rest)))
      (sym (ap (λ (h : Heap). h.blocks) t.taken))
      (came old.blocks addr (name_block 0 0 (last_row addr name kind object)) (linked name_addr name_block 0 next rows) rest t.nonzero t.fresh c.stands);
  first = ap (λ (h : Heap). h.roots 89) t.taken ∙ c.first;
}

-- the catalogue as a chain
pub chain_of : {heap : Heap} {names : List NameRow} → KeepsNames heap names → (rest : Entries) → BlocksAre heap.blocks (catalogue_entries names ++ rest) → CatalogueChain heap names 0 rest
chain_of k rest s = record { stands = s; first = k.first }

-- an entry that is linked behind the last one is the last one
linked_last : (rows : List NameRow) (x : NameRow) (rest : Entries) →
    linked name_addr name_block 0 x.addr rows ++ ((x.addr, name_block 0 0 x) ∷ rest) ≡ linked name_addr name_block 0 0 (rows ++ x ∷ []) ++ rest
unfolding linked
linked_last rows x rest =
    sym (ap (λ (es : Entries). es ++ rest) (linked-append name_addr name_block 0 0 rows (x ∷ []))
    ∙ append_assoc (linked name_addr name_block 0 x.addr rows) ((x.addr, name_block 0 0 x) ∷ []) rest)

-- the entry's block was taken
pub took_entry : {addr : ℕ} {old mid : Heap} (name : List ℕ) (kind object : ℕ) → length name ≤ 31 →
    TakesBytes kinds.Name (layout (0 ∷ kind ∷ object ∷ []) (name_bytes name)) addr old mid → Made (Took 56 addr ∷ []) old mid
took_entry {addr} {old} {mid} name kind object short t = record {
  all =
      let room : length (layout (0 ∷ kind ∷ object ∷ []) (name_bytes name)) ≡ 56 =
      length-layout (0 ∷ kind ∷ object ∷ []) (name_bytes name) ∙ (let n = length-name_bytes name short in omega (arith, n)) in
      ap besides t.taken ∙ ap (λ n. besides (with_moves old (Took n addr ∷ []))) room;
}

-- the whole call
pub adds_last : {name : List ℕ} {kind object last addr : ℕ} {old mid linked_to new : Heap} → last ≡ old.roots 90 → length name ≤ 31 →
    TakesBytes kinds.Name (layout (0 ∷ kind ∷ object ∷ []) (name_bytes name)) addr old mid → LinksNext last addr mid linked_to →
    new ≡ with_root linked_to 90 addr → AddsLast name kind object old new
adds_last {name} {kind} {object} {last} {addr} {old} {mid} {linked_to} {new} is_last short t l w = record {
  addr = addr;
  adds = λ names k. record {
    nonzero = t.nonzero;
    small = t.small;
    fresh = t.fresh;
    changes = record {
      kept = λ rest s.
          subst (λ (b : Blocks). BlocksAre b (catalogue_entries (with_last names addr name kind object) ++ rest)) (sym (heap_blocks w))
          (subst (λ (es : Entries). BlocksAre linked_to.blocks es) (linked_last names (last_row addr name kind object) rest)
          (chain names k rest s).stands);
    };
  };
  renamed = λ names k. record {
    all =
        let row = last_row addr name kind object in
        let taken = (took_entry name kind object short t).all in
        let front : linked_to.roots 89 ≡ first_of name_addr 0 (names ++ row ∷ []) =
        (chain names k k.rest k.stands).first ∙ sym (first-append name_addr name_block 0 names (row ∷ [])) in
        let back : addr ≡ last_of name_addr 0 (names ++ row ∷ []) = sym (last-append name_addr name_block 0 names (row ∷ [])) in
        ap besides w
        ∙ ap (λ (h : Heap). record h { roots = with_at h.roots 90 addr }) (l.same ∙ ap (λ (h : Heap). record h { roots = with_at h.roots 89 (linked_to.roots 89) }) taken)
        ∙ ap (λ v. record (besides (with_moves old (Took 56 addr ∷ []))) { roots = with_at (with_at old.roots 89 v) 90 addr }) front
        ∙ ap (λ v. record (besides (with_moves old (Took 56 addr ∷ []))) { roots = with_at (with_at old.roots 89 (first_of name_addr 0 (names ++ row ∷ []))) 90 v }) back;
  };
}
  where
    chain : (names : List NameRow) → (k : KeepsNames old names) → (rest : Entries) → BlocksAre old.blocks (catalogue_entries names ++ rest) →
        CatalogueChain linked_to names addr ((addr, name_block 0 0 (last_row addr name kind object)) ∷ rest)
    chain names k rest s =
        l.links names 0 ((addr, name_block 0 0 (last_row addr name kind object)) ∷ rest) (is_last ∙ k.last) (came_behind name kind object t (chain_of k rest s))

-- a link leaves all but the first one's word
pub linked_rest : {prev next : ℕ} {mid linked_to : Heap} → LinksNext prev next mid linked_to → besides linked_to ≡ record (besides mid) { roots = linked_to.roots }
linked_rest {mid = mid} {linked_to = linked_to} l = l.same ∙ ap (λ (r : ℕ → ℕ). record (besides mid) { roots = r }) (sym (ap (λ (h : Heap). h.roots) l.same))
