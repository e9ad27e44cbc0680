-- A table may go to another thread, and many may read it; so a session that is one of its owners may go to another thread. Each lemma is
-- on one type, since a search goes no deeper.
use denote.Param.Send.{IsSend, IsSync, sendable}
use Rattle.std.proofs.Crossing.{crosses}
use Rattle.item_nodes.proofs.item.Item.TheLaws.TheKnot as item
use Rattle.cbor_item.specs.contracts.sound.Sound as Sound
use Rattle.table_nodes.specs.contracts.nodes.Test as Test
use Rattle.table_nodes.specs.contracts.nodes.Node as Node
use Rattle.table_nodes.specs.contracts.table.Table as Table
use Rattle.table_nodes.proofs.nodes.Group.TheSendSync as group
use Rattle.read_building.specs.contracts.frame.Frame as Frame
use Rattle.read_building.specs.contracts.builder.Builder as Builder
use Rattle.read_building.specs.contracts.work.Work as Work
use Rattle.read_items.proofs.form.reader.FormReader.TheSendSync as form
use Rattle.cbor_read.specs.contracts.reader.ItemReader as ItemReader
use Rattle.history.proofs.History.TheSendSync as history
use Rattle.seq_run.specs.contracts.session.Rest as Rest
use Rattle.seq_run.specs.contracts.owned.OwnedSession as OwnedSession

test_send : IsSend (Test.the_field).row
test_send = search (crosses, item.crosses, sendable) depth 60 fits 20000

test_sync : IsSync (Test.the_field).row
test_sync = search (crosses, item.crosses, sendable) depth 60 fits 20000

node_send : IsSend Node.the_row
node_send = search (test_send, crosses, sendable) depth 60 fits 20000

node_sync : IsSync Node.the_row
node_sync = search (test_sync, crosses, sendable) depth 60 fits 20000

pub table_send : IsSend Table.the_row
table_send = search (node_send, group.the_send, crosses, sendable) depth 60 fits 20000

pub table_sync : IsSync Table.the_row
table_sync = search (node_sync, group.the_sync, crosses, sendable) depth 60 fits 20000

pub sound_send : IsSend (Sound.the_field).row
sound_send = search (item.crosses, crosses, sendable) depth 60 fits 20000

frame_send : IsSend (Frame.the_field).row
frame_send = search (item.crosses, crosses, sendable) depth 60 fits 20000

builder_send : IsSend (Builder.the_field).row
builder_send = search (frame_send, crosses, sendable) depth 60 fits 20000

work_send : IsSend (Work.the_field).row
work_send = search (builder_send, form.the_send, crosses, sendable) depth 60 fits 20000

reader_send : IsSend (ItemReader.the_field).row
reader_send = search (work_send, history.the_send, crosses, sendable) depth 60 fits 20000

rest_send : IsSend (Rest.the_field).row
rest_send = search (reader_send, sound_send, history.the_send, crosses, sendable) depth 60 fits 20000

pub owned_send : IsSend (OwnedSession.the_field).row
owned_send = search (table_send, table_sync, rest_send, crosses, sendable) depth 60 fits 20000
