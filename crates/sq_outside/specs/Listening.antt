-- What is known of a TCP port: how many of its connections are open, and how often it has failed.
use Rattle.std.specs.Prelude.{ℕ}
use Rattle.sq_outside.specs.declared.listening.Listening.{Listening}

-- how many connections were accepted and not yet handed back
abbrev pub connections_out : Listening → ℕ
connections_out ports = ports.out

-- how often an open or an accept has failed
abbrev pub port_faults : Listening → ℕ
port_faults ports = ports.faults
