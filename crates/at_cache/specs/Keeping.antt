-- What is kept, and what is remembered beside it.
use Rattle.at_cache.specs.declared.keep_recorded.KeepRecorded.{KeepRecorded}
use Rattle.at_index.specs.Finding.{edges_to}
use Rattle.at_cache.specs.Kept.{Entries}
use Rattle.at_cache.specs.Shedding.{kept_cut, remembered_cut}
use Rattle.at_cache.specs.Traced.{Memories}

abbrev pub recorded_by : KeepRecorded → Entries
recorded_by k = kept_cut (edges_to k.readers) k.cut k.puts

abbrev pub remembered_by : KeepRecorded → Memories
remembered_by k = remembered_cut (edges_to k.readers) k.cut
