-- The spans of a placed policy's image.
use Rattle.std.specs.Prelude.{List, ◌++◌, length}
use Rattle.image_pack.specs.declared.parts.SpanPart.{SpanPart}
use Rattle.region_alloc.specs.Placed.{Placement}
use Rattle.span_emit.specs.Spans.{device_spans, region_spans}

-- by number: the regions, then the devices' memory
unfoldable pub spans_of : Placement → List SpanPart
spans_of x = region_spans x.expanded.regions x.addresses ++ device_spans (length x.expanded.regions) x.expanded.lawful.devices
