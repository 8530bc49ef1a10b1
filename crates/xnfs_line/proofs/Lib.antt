mod ShellTurns
mod WordCases
mod Statuses
