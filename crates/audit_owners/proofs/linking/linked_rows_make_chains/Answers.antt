use Rattle.std.proofs.Common.{arith}
use Rattle.sdr_base.specs.Catalogue.{name_addr, name_block}
use Rattle.sdr_base.specs.Hashes.{item_addr, item_block}
use Rattle.sdr_base.specs.Lists.{addr_of, element_block}
use Rattle.sdr_base.specs.Tickets.{ticket_addr, ticket_block}
use Rattle.sdr_base.specs.ZcoObjects.{capsule_addr, capsule_block, extent_addr, extent_block}
use Rattle.audit_owners.proofs.LayoutLemmas.{elements_fit, extents_fit, headers_fit, items_fit, names_fit, tickets_fit, trailers_fit}
use Rattle.audit_owners.proofs.LinkingLemmas.{linked_goes}
use Rattle.audit_owners.specs.declared.owner.Owner.TheVariants as owners
use Rattle.audit_owners.proofs.linking.linked_rows_make_chains.Goals as goal

pub returns-clause-names : goal.returns-clause-names
returns-clause-names c heap rows small stand =
    linked_goes heap owners.Catalogue name_addr name_block names_fit 0 rows (omega arith) small stand

pub returns-clause-tickets : goal.returns-clause-tickets
returns-clause-tickets c heap account rows small stand =
    linked_goes heap (owners.Queue account) ticket_addr (ticket_block account) (tickets_fit account) 0 rows (omega arith) small stand

pub returns-clause-elements : goal.returns-clause-elements
returns-clause-elements c heap list rows fits small stand =
    linked_goes heap (owners.List list) addr_of (element_block list) (elements_fit list fits) 0 rows (omega arith) small stand

pub returns-clause-items : goal.returns-clause-items
returns-clause-items c heap hash front rows small stand =
    linked_goes heap (owners.Bucket hash front) item_addr item_block (items_fit hash front) 0 rows (omega arith) small stand

pub returns-clause-headers : goal.returns-clause-headers
returns-clause-headers c heap object rows small stand =
    linked_goes heap (owners.Headers object) capsule_addr capsule_block (headers_fit object) 0 rows (omega arith) small stand

pub returns-clause-extents : goal.returns-clause-extents
returns-clause-extents c heap object rows small stand =
    linked_goes heap (owners.Extents object) extent_addr extent_block (extents_fit object) 0 rows (omega arith) small stand

pub returns-clause-trailers : goal.returns-clause-trailers
returns-clause-trailers c heap object rows small stand =
    linked_goes heap (owners.Trailers object) capsule_addr capsule_block (trailers_fit object) 0 rows (omega arith) small stand
