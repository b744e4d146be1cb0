-- What the adapters over std's readers and writers hold.
use Rattle.io_edge.specs.declared.std_source.StdSource.{StdSource}
use Rattle.io_edge.specs.declared.std_sink.StdSink.{StdSink}

-- the reader behind a source
abbrev pub reader : {R : Type 0} → StdSource R → R
reader source = source.0.inner

-- the writer behind a sink
abbrev pub writer : {W : Type 0} → StdSink W → W
writer sink = sink.0.inner
