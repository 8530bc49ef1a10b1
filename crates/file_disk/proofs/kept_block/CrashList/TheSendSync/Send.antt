-- A list that no memory holds owns nothing, so it may go to another thread. The check takes `send` from here.
use denote.Param.Send.{IsSend, owning_send, sendable}
use Rattle.file_disk.specs.contracts.kept_block.CrashList.{the_row, the_type}

pub send : IsSend the_row
send = owning_send the_type (search sendable, tt) (λ d. tt) (λ k x w. tt)
