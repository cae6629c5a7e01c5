-- The chain of the catalogue while its links are set.
use Rattle.std.specs.Prelude.{◌≡◌, ℕ, List, ◌++◌}
use Rattle.sdr_base.specs.Blocks.{with_at}
use Rattle.sdr_base.specs.Catalogue.{NameRow, name_addr, name_block}
use Rattle.sdr_base.specs.Entries.{Entries, BlocksAre}
use Rattle.sdr_base.specs.Linked.{first_of, last_of, linked}
use Rattle.sdr_base.specs.Making.{besides}
use Rattle.sdr_base.specs.Objects.{Heap}
use Rattle.sdr_base.specs.declared.control.TheConstants.{FIRST_NAME}

-- these entries are the first ones of the catalogue, and this follows the last of them
pub record CatalogueChain (heap : Heap) (rows : List NameRow) (next : ℕ) (rest : Entries) : Type 0 where
  pub stands : BlocksAre heap.blocks (linked name_addr name_block 0 next rows ++ rest)
  pub first : heap.roots FIRST_NAME ≡ first_of name_addr next rows

-- wherever `prev` is the last of some first ones, another follows them now
pub record LinksNext (prev next : ℕ) (old new : Heap) : Type 0 where
  pub links : (rows : List NameRow) (was : ℕ) (rest : Entries) → prev ≡ last_of name_addr 0 rows → CatalogueChain old rows was rest →
      CatalogueChain new rows next rest
  pub same : besides new ≡ record (besides old) { roots = with_at old.roots FIRST_NAME (new.roots FIRST_NAME) }
