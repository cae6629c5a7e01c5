-- The sources, raw objects and extents of a told world fit each other.
use Rattle.std.proofs.Common.{◌≡◌, ◌≤◌, ◌==◌, ◌||◌, ◌⊎◌, ℕ, zero, suc, Bool, List, true, false, drop, arith, ap, ◌∙◌, refl, sym, subst, inl, inr, eqb-true}
use Rattle.std.specs.Prelude.{IfSome, Option, None, Some, is_some}
use Rattle.std.specs.Option.{option_map_or}
use Rattle.std.proofs.lemmas.Bool.{and_from, cases_Bool}
use Rattle.std.proofs.lemmas.List.Elements.{All-map}
use Rattle.sdr_base.specs.Blocks.{Block}
use Rattle.sdr_base.specs.declared.account.Acct.TheVariants as accts
use Rattle.sdr_base.specs.declared.kind.Kind.{Kind}
use Rattle.sdr_base.specs.declared.kind.Kind.TheVariants as kinds
use Rattle.audit_counts.specs.Counted.{IsCounted}
use Rattle.audit_owners.specs.Members.{members}
use Rattle.sdr_model.specs.Valid.{AreInside, FitTogether, HasBytes, HasSubject, HasExtentIfPassing, LiesInside}
use Rattle.sdr_model.specs.World.{as_raw, thing_at}
use Rattle.sdr_model.specs.Zco.{as_source, names_raw, source_at, taken_over}
use Rattle.sdr_model.specs.declared.things.Thing.{Thing}
use Rattle.sdr_model.specs.declared.zco.Extent.{Extent}
use Rattle.sdr_model.specs.declared.zco.ZcoSource.{ZcoSource}
use Rattle.audit_owners.specs.Chains.{first_link, is_member}
use Rattle.audit_owners.specs.Reading.{behind_words, bytes_of}
use Rattle.audit_owners.specs.Rules as rules
use Rattle.audit_owners.specs.View.{View, is_kind, word_of}
use Rattle.audit_owners.specs.declared.owner.Owner.TheVariants as owners
use Rattle.audit_world.proofs.LinkLemmas.{extent_chain}
use Rattle.audit_world.proofs.OccupiedLemmas.{all_so, goes_members, length-behind, source_at_is, source_there}
use Rattle.audit_world.proofs.OwnLemmas.{IsAudited, own_of}
use Rattle.audit_world.proofs.SourceLemmas.{source_of, source_word, subject_by}
use Rattle.audit_world.proofs.TiesLemmas.{raw_same, source_named, stored_same, thing_cases, thing_is, unless}
use Rattle.audit_world.proofs.ValidLemmas.{owned_medium}
use Rattle.audit_world.proofs.Fitting.{AreFitting}
use Rattle.audit_world.specs.Told.{extent_told, source_told, thing_by, thing_of_kind, thing_told, world_told}

module _ (heap : View) (words : ℕ) (a : IsAudited heap words) where
  -- the raw object of a subject, by the number of its medium
  has_subject : (medium number : ℕ) (path : List ℕ) (count : ℕ) →
      ((medium == 3 || medium == 4) ≡ true → HasBytes count (as_raw (thing_at (world_told heap words) number))) → 1 ≤ medium → medium ≤ 4 →
      HasSubject (world_told heap words) count (subject_by medium number path)
  has_subject zero number path count has least most = absurd (omega (arith, least))
  has_subject (suc zero) number path count has least most = tt
  has_subject (suc (suc zero)) number path count has least most = tt
  has_subject (suc (suc (suc zero))) number path count has least most = has refl
  has_subject (suc (suc (suc (suc zero)))) number path count has least most = has refl
  has_subject (suc (suc (suc (suc (suc n))))) number path count has least most = absurd (omega (arith, most))

  -- the raw object at an address is what its block tells
  raw_at_is : (addr : ℕ) → is_kind kinds.Raw (heap.blocks addr) ≡ true → as_raw (thing_at (world_told heap words) addr) ≡ Some (drop 8 (bytes_of (heap.blocks addr)))
  raw_at_is addr is =
      let b = own_of heap words a kinds.Raw addr is in
      ap as_raw (thing_is heap words a addr)
      ∙ ap (λ (o : Option Block). as_raw (thing_by o heap words addr)) b.is
      ∙ ap (λ (k : Kind). as_raw (thing_of_kind k heap words addr)) b.kind_is

  module _ (f : AreFitting heap words) (c : IsCounted heap words) where
    -- what holds of each source holds of those of the world
    each_source : (P : ℕ → ZcoSource → Type 0) → ((addr : ℕ) → is_kind kinds.Source (heap.blocks addr) ≡ true → P addr (source_told (heap.blocks addr))) →
        (addr : ℕ) → IfSome (source_at (world_told heap words) addr) (P addr)
    each_source P holds addr =
        subst (λ (o : Option Thing). IfSome (as_source o) (P addr)) (sym (thing_is heap words a addr))
        (thing_cases heap words (λ (o : Option Thing). IfSome (as_source o) (P addr)) addr (λ at. tt) by_kind)
      where
        by_kind : (kind : Kind) → is_kind kind (heap.blocks addr) ≡ true → IfSome (as_source (thing_of_kind kind heap words addr)) (P addr)
        by_kind kinds.Raw is = tt
        by_kind kinds.Text is = tt
        by_kind kinds.List is = tt
        by_kind kinds.Element is = tt
        by_kind kinds.Table is = tt
        by_kind kinds.Hash is = tt
        by_kind kinds.HashEntry is = tt
        by_kind kinds.Name is = tt
        by_kind kinds.Source is = holds addr is
        by_kind kinds.Object is = tt
        by_kind kinds.Extent is = tt
        by_kind kinds.Capsule is = tt
        by_kind kinds.Ticket is = tt

    inside_so : (addr : ℕ) → IfSome (thing_told heap words addr) (AreInside (world_told heap words))
    inside_so addr = thing_cases heap words (λ (o : Option Thing). IfSome o (AreInside (world_told heap words))) addr (λ at. tt) by_kind
      where
        by_kind : (kind : Kind) → is_kind kind (heap.blocks addr) ≡ true → IfSome (thing_of_kind kind heap words addr) (AreInside (world_told heap words))
        by_kind kinds.Raw is = tt
        by_kind kinds.Text is = tt
        by_kind kinds.List is = tt
        by_kind kinds.Element is = tt
        by_kind kinds.Table is = tt
        by_kind kinds.Hash is = tt
        by_kind kinds.HashEntry is = tt
        by_kind kinds.Name is = tt
        by_kind kinds.Source is = tt
        by_kind kinds.Object is =
            All-map (λ (e : Extent). LiesInside e (source_at (world_told heap words) e.source)) (extent_told heap) (members heap words (owners.Extents addr))
            (all_so (λ n. is_member heap (owners.Extents addr) n ≡ true) (λ n. LiesInside (extent_told heap n) (source_at (world_told heap words) (word_of (heap.blocks n) 0)))
            (λ n member.
            subst (LiesInside (extent_told heap n)) (sym (source_at_is heap words a (word_of (heap.blocks n) 0) (source_there heap words a n member)))
            (f.extents n member).inside)
            (members heap words (owners.Extents addr))
            (goes_members heap words (owners.Extents addr) 0 (first_link heap (owners.Extents addr)) (members heap words (owners.Extents addr)) (extent_chain heap words a addr is).last 0
            (extent_chain heap words a addr is).goes))
        by_kind kinds.Extent is = tt
        by_kind kinds.Capsule is = tt
        by_kind kinds.Ticket is = tt

    subject_so : (addr : ℕ) → is_kind kinds.Source (heap.blocks addr) ≡ true →
        HasSubject (world_told heap words) (word_of (heap.blocks addr) 5) (source_told (heap.blocks addr)).subject
    subject_so addr is =
        let b = own_of heap words a kinds.Source addr is in
        let told = source_word heap words a addr b 0 (omega arith) in
        let least = (source_of heap words a addr b).least in
        let most = (source_of heap words a addr b).most in
        let raw : ℕ = word_of (heap.blocks addr) 4 in
        has_subject (word_of (heap.blocks addr) 0) raw (behind_words (heap.blocks addr) 6) (word_of (heap.blocks addr) 5)
        (λ medium.
        let names : rules.is_source_of_raw (heap.blocks addr) ≡ true = and_from (is_kind kinds.Source (heap.blocks addr)) (word_of (heap.blocks addr) 0 == 3 || word_of (heap.blocks addr) 0 == 4) is medium in
        let there : is_kind kinds.Raw (heap.blocks raw) ≡ true = unless heap words a (rules.is_source_of_raw (heap.blocks addr)) (is_kind kinds.Raw (heap.blocks raw)) (a.owned.kept.1.0 addr) names in
        let long = f.raws addr names in
        let behind = length-behind (heap.blocks raw) in
        subst (HasBytes (word_of (heap.blocks addr) 5)) (sym (raw_at_is raw there)) (omega (arith, long, behind)))
        (omega (arith, told, least)) (omega (arith, told, most))

    alone_so : (raw p q : ℕ) (o o' : Option Thing) → thing_told heap words p ≡ o → thing_told heap words q ≡ o' →
        IfSome o (λ s. IfSome o' (λ t. names_raw raw s ≡ true → names_raw raw t ≡ true → p ≡ q))
    alone_so raw p q None o' is is' = tt
    alone_so raw p q (Some s) None is is' = tt
    alone_so raw p q (Some s) (Some t) is is' = λ one other.
        source_named heap words a raw p (sym (ap (λ (o : Option Thing). option_map_or (names_raw raw) o false) (sym is) ∙ raw_same heap words a raw p) ∙ one)
        ∙ sym (source_named heap words a raw q (sym (ap (λ (o : Option Thing). option_map_or (names_raw raw) o false) (sym is') ∙ raw_same heap words a raw q) ∙ other))

    used_so : (addr : ℕ) → is_kind kinds.Source (heap.blocks addr) ≡ true → HasExtentIfPassing (world_told heap words) addr (source_told (heap.blocks addr))
    used_so addr is passing =
        let inbound = stored_same heap words a c.counts accts.Inbound addr is in
        let outbound = stored_same heap words a c.counts accts.Outbound addr is in
        let why : (word_of (heap.blocks addr) 0 ≡ 3) ⊎ (word_of (heap.blocks addr) 1 ≡ 1) = reason (cases_Bool owned) passing in
        let used = (f.sources addr is).used why in
        omega (arith, inbound, outbound, used)
      where
        owned : Bool
        owned = is_some (taken_over (source_told (heap.blocks addr)).subject)

        reason : (owned ≡ true) ⊎ (owned ≡ false) → (owned || word_of (heap.blocks addr) 1 == 1) ≡ true → (word_of (heap.blocks addr) 0 ≡ 3) ⊎ (word_of (heap.blocks addr) 1 ≡ 1)
        reason (inl so) passing = inl (owned_medium (word_of (heap.blocks addr) 0) (word_of (heap.blocks addr) 4) (behind_words (heap.blocks addr) 6) so)
        reason (inr off) passing = inr (eqb-true (word_of (heap.blocks addr) 1) 1 (sym (ap (λ (t : Bool). t || word_of (heap.blocks addr) 1 == 1) off) ∙ passing))

    -- the sources and extents of the told world fit each other
    pub world_fits : FitTogether (world_told heap words)
    world_fits = record {
      inside = λ addr. subst (λ (o : Option Thing). IfSome o (AreInside (world_told heap words))) (sym (thing_is heap words a addr)) (inside_so addr);
      subjects = each_source (λ addr source. HasSubject (world_told heap words) source.length source.subject) subject_so;
      alone = λ raw p q.
          subst (λ (o : Option Thing). IfSome o (λ s. IfSome (thing_at (world_told heap words) q) (λ t. names_raw raw s ≡ true → names_raw raw t ≡ true → p ≡ q)))
          (sym (thing_is heap words a p))
          (subst (λ (o : Option Thing). IfSome (thing_told heap words p) (λ s. IfSome o (λ t. names_raw raw s ≡ true → names_raw raw t ≡ true → p ≡ q)))
          (sym (thing_is heap words a q)) (alone_so raw p q (thing_told heap words p) (thing_told heap words q) refl refl));
      used = each_source (λ addr source. HasExtentIfPassing (world_told heap words) addr source) used_so;
    }
