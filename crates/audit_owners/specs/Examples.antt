-- Small heaps with one thing wrong in each.
use Rattle.std.specs.Prelude.{ℕ, [], ◌∷◌}
use Rattle.sdr_base.specs.Entries.{Entries, at}
use Rattle.sdr_base.specs.Lists.{ListElement, element_block, list_block}
use Rattle.audit_owners.specs.View.{View}

-- a heap with these blocks alone, in which no control word links to any
abbrev pub heap_of : Entries → View
heap_of entries = record { blocks = at entries; roots = λ word. 0 }

-- the element at an address, with a datum of 5
abbrev pub fifth : ℕ → ListElement
fifth addr = record { addr = addr; datum = 5 }

-- two lists whose words name one element, that of the first
abbrev pub shared_entries : Entries
shared_entries =
    (2056, list_block 0 1 2136 2136)
    ∷ (2096, list_block 0 1 2136 2136)
    ∷ (2136, element_block 2056 0 0 (fifth 2136)) ∷ []

-- their heap
abbrev pub shared_element : View
shared_element = heap_of shared_entries

-- a list of two elements, the second of which links to the first
abbrev pub looping_entries : Entries
looping_entries =
    (2056, list_block 0 2 2096 2136)
    ∷ (2096, element_block 2056 0 2136 (fifth 2096))
    ∷ (2136, element_block 2056 2096 2096 (fifth 2136)) ∷ []

-- their heap
abbrev pub looping_list : View
looping_list = heap_of looping_entries

-- a list of two elements, the second of which names none before it
abbrev pub unlinked_entries : Entries
unlinked_entries =
    (2056, list_block 0 2 2096 2136)
    ∷ (2096, element_block 2056 0 2136 (fifth 2096))
    ∷ (2136, element_block 2056 0 0 (fifth 2136)) ∷ []

-- their heap
abbrev pub unlinked_element : View
unlinked_element = heap_of unlinked_entries

-- a list of one element that tells another as its last
abbrev pub last_entries : Entries
last_entries =
    (2056, list_block 0 1 2096 2136)
    ∷ (2096, element_block 2056 0 0 (fifth 2096)) ∷ []

-- their heap
abbrev pub wrong_last : View
wrong_last = heap_of last_entries

-- a list of no elements, and an element of it that no link reaches
abbrev pub lost_entries : Entries
lost_entries =
    (2056, list_block 0 0 0 0)
    ∷ (2096, element_block 2056 0 0 (fifth 2096)) ∷ []

-- their heap
abbrev pub lost_element : View
lost_element = heap_of lost_entries
