-- What the users of a layer are told, as values alone.
use Rattle.std.specs.Prelude.{ℕ, List, [], ◌∷◌, Bool, true, false}
use Rattle.x25_circuit.specs.code.Replies.{notices_of, tells_message}
use Rattle.x25_layer.specs.declared.report.Report.{Report}
use Rattle.x25_layer.specs.declared.report.Report.TheVariants as code
use Rattle.x25_layer.specs.Layer.{LayerNotice, restarted, restart_done, layer_fault, notices_on}

-- a report, where the octets of a message are these
abbrev pub plain_report : List ℕ → Report → List LayerNotice
plain_report message code.Nothing = []
plain_report message (code.Channel channel collided notice) = notices_on channel (notices_of message collided notice)
plain_report message (code.Restarted cause diagnostic) = restarted cause diagnostic ∷ []
plain_report message code.RestartDone = restart_done ∷ []
plain_report message (code.Fault diagnostic) = layer_fault diagnostic ∷ []

-- whether it tells a message
abbrev pub has_message : Report → Bool
has_message (code.Channel channel collided notice) = tells_message notice
has_message report = false

abbrev pub is_of_channel : Report → Bool
is_of_channel (code.Channel channel collided notice) = true
is_of_channel report = false
