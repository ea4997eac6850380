-- The sizes of an image, worked out.
use Rattle.std.proofs.Common.{◌≡◌, refl}
use Rattle.image_pack.specs.Sizes.{device_size, major_size, most_image_bytes, span_size, subject_size}

a_span : span_size ≡ 160
a_span = refl

a_subject : subject_size ≡ 608
a_subject = refl

a_major_frame : major_size ≡ 4132
a_major_frame = refl

a_device : device_size ≡ 1252
a_device = refl

an_image : most_image_bytes ≡ 67419096
an_image = refl
