use Rattle.std.proofs.Common.{◌∙◌, ◌++◌, ap, append_assoc, codes, decimal}
use Rattle.x25_packet.specs.Block.{optional_at}
use Rattle.x25_text.specs.WidePacketText.{format_text, optional_block_text}
use Rattle.x25_text.proofs.wide_packet_text.push_kind.Goals as goal

pub returns-in-ClearConf-clause-text : goal.returns-in-ClearConf-clause-text
returns-in-ClearConf-clause-text c =
    let front = codes "CLEARCONF ch=" ++ decimal c.args.packet.now.channel in
    let format = format_text c.args.packet.now.bit_8 in
    let behind = optional_block_text c.args.packet.now.bit_8 (optional_at c.args.packet.now.bit_8 c.in-ClearConf.body.now) in
    rw c.in-ClearConf.is
    (c.push_optional_block-in-ClearConf.ensures.text
    ∙ ap (λ t. t ++ behind) (c.push_format-in-ClearConf.ensures.text ∙ ap (λ t. t ++ format) c.push_number-in-ClearConf.ensures.text
    ∙ append_assoc c.args.text.now front format)
    ∙ append_assoc c.args.text.now (front ++ format) behind)

pub returns-in-InterruptConf-clause-text : goal.returns-in-InterruptConf-clause-text
returns-in-InterruptConf-clause-text c = rw c.in-InterruptConf.is c.push_number-in-InterruptConf.ensures.text

pub returns-in-ResetConf-clause-text : goal.returns-in-ResetConf-clause-text
returns-in-ResetConf-clause-text c = rw c.in-ResetConf.is c.push_number-in-ResetConf.ensures.text

pub returns-in-RestartConf-clause-text : goal.returns-in-RestartConf-clause-text
returns-in-RestartConf-clause-text c = rw c.in-RestartConf.is c.push-in-RestartConf.ensures.text

pub returns-in-RegistrationConf-clause-text : goal.returns-in-RegistrationConf-clause-text
returns-in-RegistrationConf-clause-text c = rw c.in-RegistrationConf.is c.push_field-in-RegistrationConf.ensures.text
