use Rattle.sdr_base.specs.Catalogue.{name_addr, name_block}
use Rattle.sdr_base.specs.Hashes.{item_addr, item_block}
use Rattle.sdr_base.specs.Lists.{addr_of, element_block}
use Rattle.sdr_base.specs.Tickets.{ticket_addr, ticket_block}
use Rattle.sdr_base.specs.ZcoObjects.{capsule_addr, capsule_block, extent_addr, extent_block}
use Rattle.audit_owners.proofs.LinkingLemmas.{goes_linked}
use Rattle.audit_owners.specs.Chains.{first_link}
use Rattle.audit_owners.specs.declared.owner.Owner.TheVariants as owners
use Rattle.audit_owners.proofs.linking.chains_are_linked_rows.Goals as goal

pub returns-clause-names : goal.returns-clause-names
returns-clause-names c heap read addrs last back goes =
    goes_linked heap owners.Catalogue name_addr name_block read back 0 (first_link heap owners.Catalogue) addrs last
    goes

pub returns-clause-tickets : goal.returns-clause-tickets
returns-clause-tickets c account heap read addrs last back goes =
    goes_linked heap (owners.Queue account) ticket_addr (ticket_block account) read back 0 (first_link heap (owners.Queue account)) addrs last goes

pub returns-clause-elements : goal.returns-clause-elements
returns-clause-elements c list heap read addrs last back goes =
    goes_linked heap (owners.List list) addr_of (element_block list) read back 0 (first_link heap (owners.List list)) addrs last goes

pub returns-clause-items : goal.returns-clause-items
returns-clause-items c hash front heap read addrs last back goes =
    goes_linked heap (owners.Bucket hash front) item_addr item_block read back 0 (first_link heap (owners.Bucket hash front)) addrs last goes

pub returns-clause-headers : goal.returns-clause-headers
returns-clause-headers c object heap read addrs last back goes =
    goes_linked heap (owners.Headers object) capsule_addr capsule_block read back 0 (first_link heap (owners.Headers object)) addrs last goes

pub returns-clause-extents : goal.returns-clause-extents
returns-clause-extents c object heap read addrs last back goes =
    goes_linked heap (owners.Extents object) extent_addr extent_block read back 0 (first_link heap (owners.Extents object)) addrs last goes

pub returns-clause-trailers : goal.returns-clause-trailers
returns-clause-trailers c object heap read addrs last back goes =
    goes_linked heap (owners.Trailers object) capsule_addr capsule_block read back 0 (first_link heap (owners.Trailers object)) addrs last goes
