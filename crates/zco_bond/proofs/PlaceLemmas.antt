-- An extent comes at a place in a chain.
use Rattle.std.proofs.Common.{◌≡◌, ◌≢◌, ◌+◌, ℕ, List, [], ◌∷◌, ◌++◌, Some, sym, ap, ◌∙◌, arith, subst, append_assoc}
use Rattle.std.specs.Prelude.{Option}
use Rattle.sdr_base.specs.Blocks.{Block, Blocks, Reaches}
use Rattle.sdr_base.specs.Entries.{Entries, BlocksAre}
use Rattle.sdr_base.specs.Linked.{last_of, linked}
use Rattle.sdr_base.specs.Making.{Made, besides, with_moves}
use Rattle.sdr_base.specs.Objects.{Heap}
use Rattle.sdr_base.specs.Words.{TakesBytes, layout}
use Rattle.sdr_base.specs.ZcoObjects.{ExtentRow, extent_addr, extent_block}
use Rattle.sdr_base.specs.declared.kind.Kind.{Kind}
use Rattle.sdr_base.specs.declared.kind.Kind.TheVariants as kinds
use Rattle.sdr_base.specs.declared.moves.Move.TheVariants.{Took}
use Rattle.sdr_base.proofs.ChainLemmas.{last_holds}
use Rattle.sdr_base.proofs.LayoutLemmas.{length-layout}
use Rattle.sdr_base.proofs.LinkedLemmas.{linked-append}
use Rattle.sdr_base.proofs.ObjectsLemmas.{with_block-apart}
use Rattle.sdr_base.proofs.StandingLemmas.{came}
use Rattle.zco_strip.specs.Linking.{LinksAfter}
use Rattle.zco_bond.specs.Bonded.{chained, first_bytes}
use Rattle.zco_bond.specs.Placing.{InsertsExtent}
use Rattle.zco_bond.specs.declared.gap.Gap.{Gap}

-- a block that was in use is, once another was taken
pub taken_reaches : {kind : Kind} {bytes : List ℕ} {addr : ℕ} {old mid : Heap} (p end : ℕ) → TakesBytes kind bytes addr old mid →
    Reaches (old.blocks p) end → Reaches (mid.blocks p) end
taken_reaches {kind} {bytes} {addr} {old} {mid} p end t r =
    let apart : p ≢ addr = λ e. subst (λ (o : Option Block). Reaches o end) (ap old.blocks e ∙ t.fresh) r in
    subst (λ (o : Option Block). Reaches o end)
    (sym (ap (λ (h : Heap). h.blocks p) t.taken ∙ with_block-apart old.blocks addr (Some (record { kind = kind; bytes = bytes })) p apart)) r

-- the words of an extent of the first bytes of a source
abbrev pub first_words : ℕ → ℕ → ℕ → List ℕ
first_words source bytes next = source ∷ 0 ∷ bytes ∷ next ∷ []

module _ {addr : ℕ} {old mid : Heap} (source bytes : ℕ) (gap : Gap)
    (t : TakesBytes kinds.Extent (layout (first_words source bytes gap.next) []) addr old mid) where
  pub took_one : Made (Took 32 addr ∷ []) old mid
  took_one = record {
    all =
        ap besides t.taken
        ∙ ap (λ n. besides (with_moves old (Took n addr ∷ [])))
        (let l = length-layout (first_words source bytes gap.next) [] in let z : 32 + 0 ≡ 32 = omega arith in l ∙ z);
  }

  -- the chain with it at the end
  at_end : (front : List ExtentRow) →
      chained addr front ++ ((addr, extent_block 0 gap.next (first_bytes addr source bytes)) ∷ [])
      ≡ chained gap.next (front ++ (first_bytes addr source bytes ∷ []))
  unfolding linked
  at_end front = sym (linked-append extent_addr extent_block 0 gap.next front (first_bytes addr source bytes ∷ []))

  pub inserts_extent : {new : Heap} → LinksAfter gap.previous addr mid new → InsertsExtent source bytes gap old new addr
  inserts_extent {new} l = record {
    small = t.small;
    nonzero = t.nonzero;
    free = t.fresh;
    inserts = λ front e. record {
      kept = λ rest s.
          let x = extent_block 0 gap.next (first_bytes addr source bytes) in
          let there : BlocksAre mid.blocks (chained gap.next front ++ ((addr, x) ∷ rest)) =
          subst (λ (b : Blocks). BlocksAre b (chained gap.next front ++ ((addr, x) ∷ rest))) (sym (ap (λ (h : Heap). h.blocks) t.taken))
          (came old.blocks addr x (chained gap.next front) rest t.nonzero t.fresh s) in
          subst (λ (es : Entries). BlocksAre new.blocks es)
          (sym (append_assoc (chained addr front) ((addr, x) ∷ []) rest) ∙ ap (λ (es : Entries). es ++ rest) (at_end front))
          ((l.links front gap.next e).kept ((addr, x) ∷ rest) there);
    };
    made = record { all = l.same ∙ took_one.all };
  }

-- the last extent in front of a place is there
pub front_reaches : {blocks : Blocks} {previous : ℕ} (next : ℕ) (front : List ExtentRow) (rest : Entries) →
    BlocksAre blocks (chained next front ++ rest) → previous ≡ last_of extent_addr 0 front → previous ≢ 0 → Reaches (blocks previous) 32
front_reaches next [] rest s e nz = absurd (nz e)
front_reaches {blocks} next (x ∷ xs) rest s e nz =
    subst (λ n. Reaches (blocks n) 32) (sym e)
    (last_holds extent_addr extent_block (λ o. Reaches o 32) blocks [] rest 0 next x xs
    (λ p y. let l = length-layout (y.source ∷ y.offset ∷ y.length ∷ next ∷ []) [] in omega (arith, l)) s)
