-- How a connection of TCP stands: it tells its counts of faults and nothing else.
use Rattle.std.specs.Prelude.{[], None}
use Rattle.streams.specs.Adapters.{read_faults, write_faults}
use Rattle.net_links.specs.Links.{Standing}
use Rattle.net_links.specs.declared.tcp.TcpLink.{TcpLink}

abbrev pub tcp_standing : TcpLink → Standing
tcp_standing link = record {
  brings = record { left = None; whole = None; faults = read_faults link.from; failing = [] };
  takes = record { taken = None; pieces = None; faults = write_faults link.to; failing = [] };
}
