use Rattle.audit_owners.proofs.ReadingLemmas.{elements_back, extents_back, headers_back, items_back, names_back, tickets_back, trailers_back}
use Rattle.audit_owners.proofs.linking.chained_blocks_read_back.Goals as goal

pub returns-clause-names : goal.returns-clause-names
returns-clause-names c heap readable = names_back heap readable

pub returns-clause-tickets : goal.returns-clause-tickets
returns-clause-tickets c heap account readable = tickets_back heap readable account

pub returns-clause-elements : goal.returns-clause-elements
returns-clause-elements c heap list readable = elements_back heap readable list

pub returns-clause-items : goal.returns-clause-items
returns-clause-items c heap hash front readable = items_back heap readable hash front

pub returns-clause-headers : goal.returns-clause-headers
returns-clause-headers c heap object readable = headers_back heap readable object

pub returns-clause-extents : goal.returns-clause-extents
returns-clause-extents c heap object readable = extents_back heap readable object

pub returns-clause-trailers : goal.returns-clause-trailers
returns-clause-trailers c heap object readable = trailers_back heap readable object
